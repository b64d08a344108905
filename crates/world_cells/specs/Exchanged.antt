-- A cell of the world is exchanged with a record.
use Rattle.std.specs.Prelude.{cond}
use Rattle.cells.specs.Seen.{Seen}
use Rattle.ids.specs.CellKeys.{same_key}
use Rattle.ids.specs.declared.cells.CellKey.{CellKey}
use Rattle.world_cells.specs.World.{Content}
use Rattle.world_cells.specs.View.{State}

-- what is seen with this in one cell
abbrev pub hold : State → CellKey → Seen Content → State
hold w k x = λ q. cond (same_key k q) x (w q)
