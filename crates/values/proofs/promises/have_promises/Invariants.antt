use Rattle.std.proofs.Common.{◌≡◌, drop}
use Rattle.values.specs.Promises.{promises_in}
use Rattle.values.specs.View.{vals_of}
use Rattle.values.proofs.promises.have_promises.Given as goal

-- the other items decide
abbrev pub invariant-loop-item : goal.invariant-loop-item
invariant-loop-item l = promises_in (vals_of (drop l.item-index l.items)) ≡ promises_in (vals_of l.items)
