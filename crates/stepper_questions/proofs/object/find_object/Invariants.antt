use Rattle.std.proofs.Common.{◌≡◌}
use Rattle.world_cells.specs.View.{world_of}
use Rattle.stepper_questions.specs.Objects.{found_in}
use Rattle.stepper_questions.proofs.object.find_object.Given as goal

-- the first that has one is among the vats that are left
abbrev pub invariant-loop-vat : goal.invariant-loop-vat
invariant-loop-vat l = found_in (world_of l.world) l.event l.index l.vat-iterator ≡ found_in (world_of l.world) l.event l.index l.vats.entries
