-- What holds of runs, and why events could not be run.
use Rattle.std.specs.Prelude.{List, reverse}
use Rattle.world_cells.specs.Events.{Event}
use Rattle.world_cells.specs.World.{World}
use Rattle.event.specs.Runs.{PlainRun}
use Rattle.event_ordering.specs.Theorems.{HaveOwnNames, InOrder}
use Rattle.world.specs.declared.step.StepFault.{StepFault}
use Rattle.world.specs.declared.step.StepFault.TheVariants as fault

-- events of which one is impossible where it comes have no run; want of memory tells nothing
abbrev pub TellsRun : List Event → StepFault → Type 0
TellsRun es fault.Impossible = (w : World) → PlainRun es w → ⊥
TellsRun es fault.Memory = Unit {0}

-- where no two of these events have one name, their turns keep the order of messages
abbrev pub KeepsOrder : List Event → World → Type 0
KeepsOrder es w = HaveOwnNames (reverse es) → InOrder (reverse es) w
