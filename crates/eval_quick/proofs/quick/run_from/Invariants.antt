use Rattle.std.proofs.Common.{drop}
use Rattle.eval_rules.specs.At.{At}
use Rattle.eval_rules.specs.Fits.{all_fit_at}
use Rattle.eval_quick.specs.Leaves.{GoesOn}
use Rattle.eval_rules.specs.View.{at}
use Rattle.eval_quick.proofs.quick.run_from.Given as goal

-- the items so far go on from those before them, and the others fit
abbrev pub invariant-loop-place : goal.invariant-loop-place
invariant-loop-place l = record {
  runs : (a : At) → GoesOn l.level l.items l.start a (at l.initial.w) → GoesOn l.level l.items l.place a (at l.w);
  fits : all_fit_at (at l.w) (drop l.place l.items);
}
