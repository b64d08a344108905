use Rattle.std.proofs.Common.{drop, map}
use Rattle.world_cells.specs.EventView.{event_of}
use Rattle.world_cells.specs.View.{world_of}
use Rattle.world.proofs.Going.{Joined}
use Rattle.world.proofs.run.plain_run.Given as goal

-- what is left runs on from here
abbrev pub invariant-loop-event : goal.invariant-loop-event
invariant-loop-event l = Joined (world_of l.world) (map event_of (drop l.event-index l.events)) (map event_of l.events)
