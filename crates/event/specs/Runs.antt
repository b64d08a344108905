-- Runs of events, one after another.
use Rattle.std.specs.Prelude.{List, reverse}
use Rattle.history.specs.Subject.{Run}
use Rattle.world_cells.specs.Events.{Event}
use Rattle.world_cells.specs.World.{World, empty}
use Rattle.event.specs.Events.{events}

-- events in order lead from this world to that one, each possible where it comes
abbrev pub RunFrom : World → List Event → World → Type 0
RunFrom v es w = ∥ Run events v (reverse es) w ∥₁

-- the same from the empty world
abbrev pub PlainRun : List Event → World → Type 0
PlainRun es w = RunFrom empty es w
