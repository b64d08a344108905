use Rattle.std.proofs.Common.{take}
use Rattle.world_cells.specs.View.{world_of}
use Rattle.event.specs.Naming.{Numbers}
use Rattle.world.proofs.step.numbers_of.Given as goal

-- so far
abbrev pub invariant-loop-name : goal.invariant-loop-name
invariant-loop-name l = Numbers (world_of l.world) (take l.name-index l.names) l.numbers.items
