-- What is seen in the cells of a core's world.
use Rattle.std.proofs.Common.{◌≡◌, sym, ap}
use Rattle.history.specs.Records.{State, contents}
use Rattle.ids.specs.declared.cells.CellKey.{CellKey}
use Rattle.world_cells.specs.Theory.{cells, state_of_world}
use Rattle.world_cells.specs.View.{world_of}
use Rattle.world_cells.specs.declared.world.World.{World}

-- the world of a core holds what the core shows
pub world_at : (w : World) (s : State cells) → state_of_world w ≡ s → (k : CellKey) → contents cells s k ≡ world_of w k
world_at w s is k = ap (λ (f : State cells). (f k).0) (sym is)
