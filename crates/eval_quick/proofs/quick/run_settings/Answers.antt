use Rattle.std.proofs.Common.{◌+◌, arith, drop, refl, ap, sym, subst}
use Rattle.std.proofs.lemmas.Result.{IfOk-weaker}
use Rattle.eval_rules.specs.Fits.{all_fit_at}
use Rattle.eval_quick.specs.Leaves.{GoesOn}
use Rattle.eval_rules.specs.View.{at}
use Rattle.eval_rules.proofs.Fitting.{all_fit_then, fits_from}
use Rattle.eval_quick.proofs.Leaves.{setting_done, none_done}
use Rattle.eval_rules.proofs.Steps.{ends_to}
use Rattle.eval_quick.proofs.quick.run_settings.Goals as goal

pub quick_setting-requires : goal.quick_setting-requires
quick_setting-requires c = (fits_from _ _ c.args.items.now c.loop-item.item-index _ c.loop-item-test.true c.item-item.is c.loop-item.invariant.fits).0

pub loop-item-preserved : goal.loop-item-preserved
loop-item-preserved c =
    let ended = ends_to c.in-Some.ensures.ends refl c.in_ok-set.ensures.place in
    record {
      counted = ap (λ n. n + 1) c.loop-item.invariant.counted;
      runs = setting_done c.args.items.now c.loop-item-test.true c.item-item.is ended c.loop-item.invariant.runs;
      fits = all_fit_then refl ended (fits_from _ _ c.args.items.now c.loop-item.item-index _ c.loop-item-test.true c.item-item.is c.loop-item.invariant.fits).1;
    }

pub loop-item-init : goal.loop-item-init
loop-item-init c = record { counted = refl; runs = none_done c.args.items.now (at c.args.w.now); fits = c.requires }

pub run_from-requires : goal.run_from-requires
run_from-requires c = record {
  within = omega (arith, c.loop-item.invariant.counted, c.loop-item-test.true);
  fits = subst (λ n. all_fit_at (at c.loop-item.w) (drop n c.args.items.now)) (sym c.loop-item.invariant.counted) c.loop-item.invariant.fits;
}

pub returns-in-Assign-clause-runs : goal.returns-in-Assign-clause-runs
returns-in-Assign-clause-runs c = IfOk-weaker c.run_from.result _ _ (λ n h. h (at c.args.w.now) (subst (λ n. GoesOn c.args.level c.args.items.now n (at c.args.w.now) (at c.loop-item.w)) (sym c.loop-item.invariant.counted) c.loop-item.invariant.runs)) c.run_from.ensures.runs

pub returns-in_default-item-clause-runs : goal.returns-in_default-item-clause-runs
returns-in_default-item-clause-runs c = subst (λ n. GoesOn c.args.level c.args.items.now n (at c.args.w.now) (at c.loop-item.w)) (sym c.loop-item.invariant.counted) c.loop-item.invariant.runs

pub returns-clause-runs : goal.returns-clause-runs
returns-clause-runs c = subst (λ n. GoesOn c.args.level c.args.items.now n (at c.args.w.now) (at c.loop-item.w)) (sym c.loop-item.invariant.counted) c.loop-item.invariant.runs
