use Rattle.std.proofs.Common.{◌≡◌, drop}
use Rattle.eval_rules.specs.Fits.{all_fit_at}
use Rattle.eval_quick.specs.Leaves.{GoesOn}
use Rattle.eval_rules.specs.View.{at}
use Rattle.eval_quick.proofs.quick.run_settings.Given as goal

-- the items so far are done, and the others fit
abbrev pub invariant-loop-item : goal.invariant-loop-item
invariant-loop-item l = record {
  counted : l.done ≡ l.item-index;
  runs : GoesOn l.level l.items l.item-index (at l.initial.w) (at l.w);
  fits : all_fit_at (at l.w) (drop l.item-index l.items);
}
