use Rattle.std.proofs.Common.{◌+◌, length, ◌∙◌, subst, arith}
use Rattle.std.proofs.lemmas.Result.{IfOk-weaker}
use Rattle.journal.specs.Journals.{items_of}
use Rattle.journal.specs.Lines.{lines_of}
use Rattle.stepper_questions.specs.ChainView.{NearestOrNone}
use Rattle.stepper_questions.specs.Why.{Crossing, Reason, is_apart}
use Rattle.stepper_questions.specs.WhyView.{relation_text}
use Rattle.stepper_questions.proofs.Writing.{reason_chained}
use Rattle.stepper_questions.proofs.why.relation_of.Goals as goal

pub links_along-requires-clause-chain : goal.links_along-requires-clause-chain
links_along-requires-clause-chain c =
    let j = c.args.journal in
    let n = length j.settled.now in
    let near = subst (NearestOrNone (lines_of (items_of j)) (n + c.args.from) (n + c.args.to)) c.in-Some.is c.in_ok-places.ensures in
    record {
      s = n + c.args.from;
      l = n + c.args.to;
      ps = near.0;
      are = c.as_slice.ensures.value ∙ near.2;
      chain = near.1.chain;
      behind = omega arith;
      before = omega (arith, c.requires.there);
    }

pub returns-in_ok-links-in-Some : goal.returns-in_ok-links-in-Some
returns-in_ok-links-in-Some c =
    let j = c.args.journal in
    let n = length j.settled.now in
    let near = subst (NearestOrNone (lines_of (items_of j)) (n + c.args.from) (n + c.args.to)) c.in-Some.is c.in_ok-places.ensures in
    reason_chained (lines_of (items_of j)) (n + c.args.from) (n + c.args.to) near.0 c.as_slice.result.now _ near.1 (c.as_slice.ensures.value ∙ near.2) c.in_ok-links-in-Some.ensures

pub returns-in-None : goal.returns-in-None
returns-in-None c =
    let j = c.args.journal in
    let n = length j.settled.now in
    let none = subst (NearestOrNone (lines_of (items_of j)) (n + c.args.from) (n + c.args.to)) c.in-None.is c.in_ok-places.ensures in
    let lines = lines_of (items_of j) in
    IfOk-weaker c.crossing_of.result (λ r. Crossing lines (n + c.args.from) (n + c.args.to) (relation_text r)) (λ r. Reason lines (n + c.args.from) (n + c.args.to) (relation_text r)) (λ r crossing. is_apart none crossing) c.crossing_of.ensures
