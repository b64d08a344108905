-- Which entries are open.
use Rattle.std.specs.Prelude.{◌≡◌, ℕ, Bool, List, drop, slice_set, slice_index_or}
use Rattle.history.specs.Records.{State}
use Rattle.world_cells.specs.Theory.{cells}
use Rattle.journal.specs.Items.{Item, item_of, swap_item}
use Rattle.journal.specs.declared.entry.Entry.{Entry}
use Rattle.undo.specs.declared.open_entries.OpenEntries.{OpenEntries}

-- those behind the emptied ones, the oldest first
abbrev pub opens : OpenEntries → List Entry
opens o = drop o.emptied o.all.items

-- the entry at a place was exchanged with the cells, and is marked so; the others stayed
pub record SwapsAt (live : Bool) (place : ℕ) (old new : List Entry) (before after : State cells) : Type 0 where
  pub entry : Entry
  pub put : new ≡ slice_set old place entry
  pub item : (d : Entry) → ◌≡◌ {A = Item × State cells} (item_of entry, after) (swap_item live (item_of (slice_index_or old place d)) before)
