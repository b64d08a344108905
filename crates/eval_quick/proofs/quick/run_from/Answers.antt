use Rattle.std.proofs.Common.{arith, refl, sym, subst, drop}
use Rattle.eval_quick.specs.Leaves.{GoesOn}
use Rattle.eval_rules.specs.Fits.{all_fit_at}
use Rattle.eval_rules.specs.View.{at}
use Rattle.eval_rules.proofs.Fitting.{all_fit_then, fits_from}
use Rattle.eval_quick.proofs.Leaves.{setting_done}
use Rattle.eval_quick.proofs.Lengthened.{ran, ran_not}
use Rattle.eval_quick.proofs.quick.run_from.Goals as goal

pub run_quickly-requires : goal.run_quickly-requires
run_quickly-requires c = (fits_from _ _ c.args.items.now c.loop-place.place _ c.loop-place-test.true c.index-items-place.is c.loop-place.invariant.fits).0

pub loop-place-init : goal.loop-place-init
loop-place-init c = record { runs = λ a h. h; fits = c.requires.fits }

pub loop-place-preserved : goal.loop-place-preserved
loop-place-preserved c =
    let ended = ran c.in_ok-ran.ensures c.if-not-ran.false in
    record {
      runs = λ a h. setting_done c.args.items.now c.loop-place-test.true c.index-items-place.is ended.1 (c.loop-place.invariant.runs a h);
      fits = all_fit_then refl ended.1 (fits_from _ _ c.args.items.now c.loop-place.place _ c.loop-place-test.true c.index-items-place.is c.loop-place.invariant.fits).1;
    }

pub returns-then-not-ran-clause-runs : goal.returns-then-not-ran-clause-runs
returns-then-not-ran-clause-runs c = λ a h. subst (GoesOn c.args.level c.args.items.now c.loop-place.place a) (sym (ran_not _ _ c.in_ok-ran.ensures c.if-not-ran.true)) (c.loop-place.invariant.runs a h)

pub returns-then-not-ran-clause-fits : goal.returns-then-not-ran-clause-fits
returns-then-not-ran-clause-fits c = subst (λ b. all_fit_at b (drop c.loop-place.place c.args.items.now)) (sym (ran_not _ _ c.in_ok-ran.ensures c.if-not-ran.true)) c.loop-place.invariant.fits

pub returns-clause-runs : goal.returns-clause-runs
returns-clause-runs c = λ a h. subst (λ n. GoesOn c.args.level c.args.items.now n a (at c.loop-place.w)) (omega (arith, c.loop-place-test.false, c.loop-place.auto.place)) (c.loop-place.invariant.runs a h)

pub returns-clause-fits : goal.returns-clause-fits
returns-clause-fits c = subst (λ n. all_fit_at (at c.loop-place.w) (drop n c.args.items.now)) (omega (arith, c.loop-place-test.false, c.loop-place.auto.place)) c.loop-place.invariant.fits
