-- Entries that were emptied.
use Rattle.std.specs.Prelude.{Bool, true, false, ◌&&◌, ◌==◌, length}
use Rattle.world_cells.specs.declared.event.Action.{Action}
use Rattle.world_cells.specs.declared.event.Action.TheVariants as action
use Rattle.journal.specs.declared.entry.Entry.{Entry}

-- an action that has nothing but names and numbers
abbrev pub is_light : Action → Bool
is_light (action.Birth x earlier script) = false
is_light (action.Ask x program) = false
is_light (action.Arrive m) = true
is_light (action.Forward m) = true
is_light (action.Learn v p) = true
is_light (action.Turn v m budget) = true

-- an entry that keeps no memory
abbrev pub is_emptied : Entry → Bool
is_emptied e = is_light e.event.action && (length e.notes.items == 0) && (length e.touched.items == 0) && (length e.records.items == 0)
