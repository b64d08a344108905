use Rattle.std.proofs.Common.{◌≤◌, arith, refl, sym, ap, ◌∙◌, Option, subst}
use Rattle.std.specs.Prelude.{IfSome}
use Rattle.heap.specs.View.{nouns_of}
use Rattle.eval_rules.specs.At.{At}
use Rattle.eval_rules.specs.Fits.{all_fit_at}
use Rattle.eval_rules.specs.Locals.{captured_in, locals_after, names_in}
use Rattle.eval_rules.specs.Rules.{inside}
use Rattle.eval_rules.specs.View.{at}
use Rattle.eval_rules.proofs.Fitting.{entry_fits}
use Rattle.eval_quick.specs.Direct.{MeetsAtHand}
use Rattle.eval_quick.specs.declared.direct.Direct.{Direct}
use Rattle.eval_quick.proofs.AtHand.{call_at_hand}
use Rattle.eval_quick.proofs.Leaves.{leaf_fits}
use Rattle.eval_quick.proofs.direct.enter_at_hand.Goals as goal

pub meet_at_hand-requires-clause-fits : goal.meet_at_hand-requires-clause-fits
meet_at_hand-requires-clause-fits c = subst (λ (z : At). all_fit_at z c.args.args.now) (sym c.empty_frame-frame.ensures.place) (leaf_fits (at c.args.w.now) c.args.receiver.now c.args.args.now c.in-Some.ensures.0 c.requires.fits.1)

pub invariant_of-w : goal.invariant_of-w
invariant_of-w c =
    let w = c.empty_frame-frame.new.w in
    let meets = subst (λ (o : Option Direct). IfSome o (λ (d : Direct). MeetsAtHand (at w) c.in-Some.id c.args.verb.now c.args.args.now d c.meet_at_hand.new.frame.items)) c.in-Some-met.is c.in_ok-met.ensures in
    let fewer : c.in-Some-met.direct.left ≤ w.steps = meets.fewer in
    record { within = w.within; counted = omega (arith, fewer, w.counted); promised = omega (arith, fewer, w.promised) }

pub returns-in-Some-met : goal.returns-in-Some-met
returns-in-Some-met c =
    let a = at c.args.w.now in
    let d = c.in-Some-met.direct in
    let names = c.meet_at_hand.new.frame.items in
    let place = c.empty_frame-frame.ensures.place in
    let caller = c.enter_method-caller.ensures in
    let meets_there = subst (λ (o : Option Direct). IfSome o (λ (d : Direct). MeetsAtHand (at c.empty_frame-frame.new.w) c.in-Some.id c.args.verb.now c.args.args.now d names)) c.in-Some-met.is c.in_ok-met.ensures in
    let meets = subst (λ (z : At). MeetsAtHand z c.in-Some.id c.args.verb.now c.args.args.now d names) place meets_there in
    let begins = caller.place ∙ ap (λ (z : At). inside (locals_after (nouns_of (captured_in d.captured)) names) (record z { left = d.left })) place in
    record {
      runs = λ o z items. call_at_hand a (at c.enter_method-caller.new.w) z c.in-Some.id d names c.in-Some.ensures meets (omega arith) (omega (arith, c.if-level.false)) begins items;
      fits = entry_fits (captured_in d.captured) names (record a { left = d.left }) (at c.enter_method-caller.new.w) begins refl meets.fits;
      names = (λ i. names_in (caller.captured i) (caller.older i) (caller.names i).items) ∙ ap (λ (z : At). z.nouns) place;
      own_scope = caller.own ∙ ap (λ (z : At). z.own_scope) place;
    }
