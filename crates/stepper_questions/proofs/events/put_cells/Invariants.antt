use Rattle.stepper_streams.proofs.Giving.{LeadsTo}
use Rattle.stepper_questions.specs.Events.{told_lines}
use Rattle.stepper_questions.specs.TouchedView.{told_entries}
use Rattle.stepper_questions.proofs.events.put_cells.Given as goal

-- what may be put of those that are left leads to all
abbrev pub invariant-loop-cell : goal.invariant-loop-cell
invariant-loop-cell g l = LeadsTo g.W.Write.contents l.fn.out l.out (told_lines (told_entries l.cell-iterator)) (told_lines (told_entries l.cells.entries))
