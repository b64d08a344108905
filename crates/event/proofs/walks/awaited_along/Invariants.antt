use Rattle.std.proofs.Common.{◌≡◌, drop}
use Rattle.world_cells.specs.View.{world_of}
use Rattle.event.specs.Walks.{awaited_along}
use Rattle.event.proofs.walks.awaited_along.Given as goal

-- the promises from the place on are left
abbrev pub invariant-loop-promise : goal.invariant-loop-promise
invariant-loop-promise l = awaited_along (world_of l.world) l.names (drop l.promise-index l.through) ≡ awaited_along (world_of l.world) l.initial.names l.through
