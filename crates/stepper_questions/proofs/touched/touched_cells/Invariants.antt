use Rattle.std.proofs.Common.{take}
use Rattle.std.specs.BTreeMap.{IsOrdered}
use Rattle.world_cells.specs.Theory.{kepts_of}
use Rattle.journal.specs.Items.{lasts_of}
use Rattle.stepper_questions.specs.Cells.{key_of, cell_cmp}
use Rattle.stepper_questions.specs.TouchedView.{SeenIn, seen_as}
use Rattle.stepper_questions.specs.declared.cell.ToldCell.{ToldCell}
use Rattle.stepper_questions.proofs.touched.touched_cells.Given as goal

-- the cells so far, in order
abbrev pub invariant-loop-touched : goal.invariant-loop-touched
invariant-loop-touched l = record {
  seen : (c : ToldCell) → SeenIn (lasts_of (take l.touched-index l.touched-items)) (kepts_of l.entry.records.items) (key_of c) (seen_as l.cells.entries c);
  ordered : IsOrdered cell_cmp l.cells;
}
