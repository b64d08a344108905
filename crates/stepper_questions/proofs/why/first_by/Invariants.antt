use Rattle.std.proofs.Common.{◌≡◌}
use Rattle.stepper_questions.specs.TouchedView.{told_entries}
use Rattle.stepper_questions.specs.Why.{is_by}
use Rattle.stepper_questions.specs.Writers.{first_cell}
use Rattle.stepper_questions.proofs.why.first_by.Given as goal

-- the first is among the cells that are left
abbrev pub invariant-loop-cell : goal.invariant-loop-cell
invariant-loop-cell l = first_cell (is_by l.writer) (told_entries l.cell-iterator) ≡ first_cell (is_by l.writer) (told_entries l.cells.entries)
