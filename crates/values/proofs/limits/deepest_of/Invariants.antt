use Rattle.std.proofs.Common.{◌≡◌, max, drop}
use Rattle.values.specs.Limits.{deepest}
use Rattle.values.specs.View.{vals_of}
use Rattle.values.proofs.limits.deepest_of.Given as goal

-- the depth so far, and that of the other items
abbrev pub invariant-loop-item : goal.invariant-loop-item
invariant-loop-item l = max l.depth (deepest (vals_of (drop l.item-index l.items))) ≡ deepest (vals_of l.items)
