use Rattle.std.proofs.Common.{◌≡◌, ◌+◌, ◌<◌, length, refl, arith}
use Rattle.std.proofs.lemmas.Result.{IfOk-weaker}
use Rattle.journal.specs.Journals.{items_of}
use Rattle.journal.specs.Lines.{lines_of}
use Rattle.stepper_questions.specs.Why.{Reason, ReasonBetween, in_order, turned, at_one}
use Rattle.stepper_questions.specs.WhyView.{relation_text}
use Rattle.stepper_questions.proofs.why.relation_between.Goals as goal

pub returns-then-place-other : goal.returns-then-place-other
returns-then-place-other c =
    let j = c.args.journal in
    let lines = lines_of (items_of j) in
    let p = length j.settled.now + c.args.place in
    let q = length j.settled.now + c.args.other in
    let lt : p < q = omega (arith, c.if-place-other.true) in
    IfOk-weaker c.relation_of.result (λ r. Reason lines p q (relation_text r)) (λ r. ReasonBetween lines p q (relation_text r)) (λ r reason. in_order lt reason) c.relation_of.ensures

pub returns-then-other-place : goal.returns-then-other-place
returns-then-other-place c =
    let j = c.args.journal in
    let lines = lines_of (items_of j) in
    let p = length j.settled.now + c.args.place in
    let q = length j.settled.now + c.args.other in
    let lt : q < p = omega (arith, c.if-other-place.true) in
    IfOk-weaker c.relation_of-then-other-place.result (λ r. Reason lines q p (relation_text r)) (λ r. ReasonBetween lines p q (relation_text r)) (λ r reason. turned lt reason) c.relation_of-then-other-place.ensures

pub returns-else-other-place : goal.returns-else-other-place
returns-else-other-place c =
    let j = c.args.journal in
    let p = length j.settled.now + c.args.place in
    let q = length j.settled.now + c.args.other in
    let one : p ≡ q = omega (arith, c.if-place-other.false, c.if-other-place.false) in
    at_one one refl
