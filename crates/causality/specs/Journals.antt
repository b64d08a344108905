-- Journals as they come about: their items stand for rows that made a world from the empty one.
use Rattle.std.specs.Prelude.{◌≡◌, ℕ, List, None, length}
use Rattle.history.specs.Records.{State, Row}
use Rattle.ids.specs.declared.names.EventName.{EventName}
use Rattle.world_cells.specs.World.{empty}
use Rattle.world_cells.specs.Theory.{cells}
use Rattle.journal.specs.Items.{Item}
use Rattle.journal.specs.Journals.{items_of}
use Rattle.journal.specs.Lines.{lines_of}
use Rattle.journal.specs.Standing.{ItemsStand}
use Rattle.journal.specs.declared.journal.Journal.{Journal}
use Rattle.event.specs.Events.{DoesNoted, noted_events}
use Rattle.causality.specs.Selections.{first_settled}

-- these are the items of a journal
abbrev pub IsJournal : List Item → Type 0
IsJournal items = ∥ ((next : ℕ) × (rows : List (Row noted_events)) × (state : State cells) × ItemsStand DoesNoted empty next rows items state) ∥₁

-- none of these events is settled
abbrev pub NoneSettled : List EventName → Journal → Type 0
NoneSettled names j = first_settled names (length j.settled.now) (lines_of (items_of j)) ≡ None
