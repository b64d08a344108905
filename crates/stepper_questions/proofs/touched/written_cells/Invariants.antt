use Rattle.std.proofs.Common.{◌≡◌, take}
use Rattle.std.specs.List.{list_any}
use Rattle.ids.specs.CellKeys.{same_key}
use Rattle.world_cells.specs.Records.{record_of}
use Rattle.stepper_questions.specs.Cells.{key_of}
use Rattle.stepper_questions.specs.TouchedView.{has_cell}
use Rattle.stepper_questions.specs.declared.cell.ToldCell.{ToldCell}
use Rattle.stepper_questions.proofs.touched.written_cells.Given as goal

-- the cells so far are those of the records so far
abbrev pub invariant-loop-record : goal.invariant-loop-record
invariant-loop-record l = (c : ToldCell) → has_cell l.cells.keys c ≡ list_any (λ r. same_key (record_of r).0 (key_of c)) (take l.record-index l.records)
