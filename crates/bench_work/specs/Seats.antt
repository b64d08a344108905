-- What workers enter from their seats.
use Rattle.std.specs.Prelude.{◌≡◌, true, List, All}
use Rattle.world_cells.specs.Events.{Event}
use Rattle.book_crew.specs.Work.{is_work}

-- each of the events is one that workers do
abbrev pub AreWork : List Event → Type 0
AreWork events = All (λ e. is_work e.act ≡ true) events
