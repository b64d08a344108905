use Rattle.std.proofs.Common.{◌≡◌, ◌+◌, ◌*◌, drop}
use Rattle.values.specs.Limits.{weight, weights}
use Rattle.values.specs.View.{val_of, vals_of}
use Rattle.sends.specs.Vats.{each_once, references_in}
use Rattle.sends.proofs.gathering.+gathering.Given as goal

-- the references of the other values are left to gather
abbrev pub invariant-gather_all-loop-value : goal.invariant-gather_all-loop-value
invariant-gather_all-loop-value l = each_once l.found.keys (references_in (vals_of (drop l.value-index l.values))) ≡ each_once l.initial.found.keys (references_in (vals_of l.values))

-- what is left, by its weight
abbrev pub decreases-gather : goal.decreases-gather
decreases-gather l = 2 * weight (val_of l.value.now)

abbrev pub decreases-gather_all : goal.decreases-gather_all
decreases-gather_all l = 2 * weights (vals_of l.values.now) + 1
