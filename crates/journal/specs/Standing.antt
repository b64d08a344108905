-- When the items of a journal stand with a state.
use Rattle.std.specs.Prelude.{◌≡◌, ℕ, Bool, List, Option, map, reverse}
use Rattle.history.specs.Records.{State, Record, Row}
use Rattle.history.specs.Stands.{Stands}
use Rattle.ids.specs.declared.cells.CellKey.{CellKey}
use Rattle.world_cells.specs.Events.{Noted}
use Rattle.world_cells.specs.World.{World}
use Rattle.world_cells.specs.Theory.{Rule, subject, cells}
use Rattle.journal.specs.Items.{Item}

-- what the theory has of an item: all but its seat
pub record Told : Type 0 where
  pub event : Noted
  pub live : Bool
  pub lasts : List (CellKey × Option ℕ)
  pub kept : Record cells

abbrev pub told : Item → Told
told i = record { event = i.event; live = i.live; lasts = i.lasts; kept = i.kept }

abbrev pub row_told : (does : Rule) → Row (subject does) → Told
row_told does p = record { event = p.0.event; live = p.0.live; lasts = p.0.lasts; kept = p.1 }

-- THE INVARIANT: these rows, the newest first, are what the items tell, and they stand with the state
pub record ItemsStand (does : Rule) (start : World) (next : ℕ) (rows : List (Row (subject does))) (items : List Item) (state : State cells) : Type 0 where
  pub shows : map (row_told does) rows ≡ reverse (map told items)
  pub stands : Stands (subject does) start next rows state
