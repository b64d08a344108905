use Rattle.std.proofs.Common.{◌≡◌, ◌+◌, ◌*◌, ◌≤◌, length}
use Rattle.values.specs.Limits.{weight, weights}
use Rattle.values.specs.Same.{same_items}
use Rattle.values.specs.View.{val_of, vals_of}
use Rattle.values.proofs.sameness.+sameness.Given as goal

-- the other items decide
abbrev pub invariant-same_items-loop-x : goal.invariant-same_items-loop-x
invariant-same_items-loop-x l =
    (length l.x-iterator.a.rest.now ≡ length l.x-iterator.b.rest.now) × (same_items (vals_of l.x-iterator.a.rest.now) (vals_of l.x-iterator.b.rest.now) ≡ same_items (vals_of l.xs) (vals_of l.ys)) × (weights (vals_of l.x-iterator.a.rest.now) ≤ weights (vals_of l.xs))

-- what is left to compare, by its weight
abbrev pub decreases-same : goal.decreases-same
decreases-same l = 2 * weight (val_of l.a.now)

abbrev pub decreases-same_items : goal.decreases-same_items
decreases-same_items l = 2 * weights (vals_of l.xs.now) + 1
