use Rattle.std.proofs.Common.{◌≡◌}
use Rattle.stepper_questions.specs.TouchedView.{told_entries}
use Rattle.stepper_questions.specs.WhyView.{crossed_in}
use Rattle.stepper_questions.specs.Writers.{first_cell}
use Rattle.stepper_questions.proofs.why.first_crossed.Given as goal

-- the first is among the cells that are left
abbrev pub invariant-loop-cell : goal.invariant-loop-cell
invariant-loop-cell l = first_cell (crossed_in l.earlier.entries) (told_entries l.cell-iterator) ≡ first_cell (crossed_in l.earlier.entries) (told_entries l.later.entries)
