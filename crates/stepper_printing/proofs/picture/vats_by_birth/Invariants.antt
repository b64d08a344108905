use Rattle.world_cells.specs.Listed.{names_in}
use Rattle.stepper_printing.proofs.Births.{Gathered}
use Rattle.stepper_printing.proofs.picture.vats_by_birth.Given as goal

-- the vats of the names so far
abbrev pub invariant-loop-name : goal.invariant-loop-name
invariant-loop-name l = Gathered (names_in l.names) l.vats.entries l.name-iterator
