use Rattle.std.proofs.Common.{refl, sym, subst, ◌∙◌, []}
use Rattle.code.specs.Frames.{captured_names_of, all_placed}
use Rattle.heap.specs.View.{bind_of, nouns_of}
use Rattle.eval_rules.specs.Fits.{frame_at}
use Rattle.eval_rules.specs.Rules.{captured, all_captured, all_sought}
use Rattle.eval_rules.specs.View.{at}
use Rattle.eval_rules.proofs.Captures.{Captures, capture_ends, capture_goes, capture_done}
use Rattle.eval_rules.proofs.Seeking.{sought_again, frame_again}
use Rattle.eval_objects.proofs.Missing.{missing_here}
use Rattle.eval_objects.proofs.objects.capture_all.Goals as goal

pub returns-in-None : goal.returns-in-None
returns-in-None c =
    let names = captured_names_of c.args.captures.now in
    let all = all_captured (captured []) names (at c.args.w.now) in
    let z = all_sought (captured []) names (at c.args.w.now) in
    let ns = nouns_of c.loop-first.nouns.items in
    let x = c.in-Some.first.now.name in
    let a = at c.loop-first.w in
    let b = at c.reach_name.new.w in
    let before = subst (λ cs. Captures (captured ns) (captured_names_of cs) a all z) c.in-Some.ensures.cases.0 c.loop-first.invariant.0 in
    let ends = capture_ends ns x x (captured_names_of c.in-Some.others.now) a b all z (c.in-None.ensures ∙ sought_again x a b c.in_ok-reach_name.ensures) refl c.in_ok-reach_name.ensures before in
    missing_here c.undefined.result c.undefined.new.w x all b z ends.0 ends.1 c.undefined.ensures

pub loop-first-preserved : goal.loop-first-preserved
loop-first-preserved c =
    let names = captured_names_of c.args.captures.now in
    let all = all_captured (captured []) names (at c.args.w.now) in
    let z = all_sought (captured []) names (at c.args.w.now) in
    let ns = nouns_of c.loop-first.nouns.items in
    let x = c.in-Some.first.now.name in
    let a = at c.loop-first.w in
    let b = at c.reach_name.new.w in
    let before = subst (λ cs. Captures (captured ns) (captured_names_of cs) a all z) c.in-Some.ensures.cases.0 c.loop-first.invariant.0 in (
      capture_goes ns (nouns_of c.add_noun.new.nouns.items) x (bind_of c.in-Some-seek.binding.now) _ (captured_names_of c.in-Some.others.now) a b all z
          (c.in-Some-seek.ensures ∙ sought_again x a b c.in_ok-reach_name.ensures) c.in_ok-share-in-Some-seek.ensures c.in_ok-add_noun-in-Some-seek.ensures c.in_ok-reach_name.ensures before,
      subst (λ f. all_placed f c.in-Some.others.now) (sym (frame_again x a b c.in_ok-reach_name.ensures)) (subst (all_placed (frame_at a)) c.in-Some.ensures.cases.0 c.loop-first.invariant.1).1,
    )

pub returns : goal.returns
returns c = capture_done _ _ c.loop-first.rest.now (at c.loop-first.w) c.in_default.ensures.cases c.loop-first.invariant.0
