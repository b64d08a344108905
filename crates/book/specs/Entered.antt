-- What a journal tells of who entered what.
use Rattle.std.specs.Prelude.{ℕ, List, ◌++◌, map, IsPermutation}
use Rattle.world_cells.specs.Events.{Event, event_in}
use Rattle.journal.specs.Lines.{Line}

-- an event, and the seat that it was entered from
pub record Entered : Type 0 where
  pub seat : ℕ
  pub event : Event

abbrev pub entered_in : List Line → List Entered
entered_in lines = map (λ l. record { seat = l.seat; event = event_in l.entry.event }) lines

-- all that was there is there still, in whatever place and order
abbrev pub IsAmong : List Entered → List Entered → Type 0
IsAmong before now = (rest : List Entered) × IsPermutation now (before ++ rest)
