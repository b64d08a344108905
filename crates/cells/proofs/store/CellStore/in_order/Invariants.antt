use Rattle.std.proofs.Common.{◌≤◌, length, drop}
use Rattle.cells.specs.Clones.{Lists}
use Rattle.cells.proofs.store.CellStore.in_order.Given as goal

-- what stands behind the place is listed
abbrev pub invariant-loop-i : goal.invariant-loop-i
invariant-loop-i g l = record {
  within : l.i ≤ length l.self.cells.entries;
  listed : Lists g.K.PartialEq.eq g.K.Ord.cmp g.V.Clone.is_clone (drop l.i l.self.cells.entries) l.listed;
}

abbrev pub decreases-loop-i : goal.decreases-loop-i
decreases-loop-i g l = l.i
