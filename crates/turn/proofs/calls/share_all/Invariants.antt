use Rattle.std.proofs.Common.{◌≡◌, take}
use Rattle.values.specs.View.{vals_of}
use Rattle.turn.proofs.calls.share_all.Given as goal

abbrev pub invariant-loop-value : goal.invariant-loop-value
invariant-loop-value l = vals_of l.row.items ≡ vals_of (take l.value-index l.values)
