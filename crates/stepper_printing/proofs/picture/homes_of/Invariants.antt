use Rattle.std.proofs.Common.{List, ℕ, ◌++◌}
use Rattle.world_cells.specs.View.{world_of}
use Rattle.stepper_printing.specs.Show.{VatLines}
use Rattle.stepper_printing.specs.PictureView.{homes_text}
use Rattle.stepper_printing.proofs.picture.homes_of.Given as goal

-- the lines of the vats that are left are, behind those so far, the lines of all
abbrev pub invariant-loop-number : goal.invariant-loop-number
invariant-loop-number l = (lines : List ℕ) → VatLines (world_of l.world) l.number-iterator lines → VatLines (world_of l.world) l.vats.entries (homes_text l.homes.items ++ lines)
