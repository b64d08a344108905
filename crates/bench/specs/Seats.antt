-- What was entered from each seat.
use Rattle.std.specs.Prelude.{ℕ, ◌==◌, List, map, filter, count_by}
use Rattle.world_cells.specs.Events.{Event}
use Rattle.book.specs.Entered.{Entered}
use Rattle.book_crew.specs.Work.{is_turn}

-- the events of a seat
abbrev pub events_by : ℕ → List Entered → List Event
events_by seat entered = map (λ e. e.event) (filter (λ e. e.seat == seat) entered)

-- how many of the events are turns
abbrev pub turns_in : List Event → ℕ
turns_in events = count_by (λ e. is_turn e.act) events
