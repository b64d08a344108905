-- What is told of an event: its line of the journal, and the cells that it touched.
use Rattle.std.specs.Prelude.{◌≡◌, ℕ, ◌+◌, Bool, true, false, List, [], ◌∷◌, ◌++◌, Option, Some, None, slice_get, codes}
use Rattle.ids.specs.Names.{event_text}
use Rattle.ids.specs.declared.names.EventName.{EventName}
use Rattle.journal.specs.Lines.{Line}
use Rattle.stepper_printing.specs.Listing.{born, entry_line}
use Rattle.stepper_questions.specs.Cells.{cell_text}
use Rattle.stepper_questions.specs.Refusals.{place_of}
use Rattle.stepper_questions.specs.Writers.{Told, Cells}
use Rattle.stepper_questions.specs.declared.cell.ToldCell.{ToldCell}

abbrev pub verb_text : Bool → List ℕ
verb_text true = codes " wrote "
verb_text false = codes " read "

-- the event of a number, or - where there is none
abbrev pub writer_text : Option ℕ → List ℕ
writer_text None = codes "-"
writer_text (Some n) = event_text (record { 0 = n })

--  read CELL WRITER, or wrote CELL WRITER
abbrev pub told_line : ToldCell × Told → List ℕ
told_line (c, t) = verb_text t.written ++ (cell_text c ++ (codes " " ++ (writer_text t.writer ++ (10 ∷ []))))

abbrev pub told_lines : List (ToldCell × Told) → List ℕ
told_lines [] = []
told_lines (c ∷ cs) = told_line c ++ told_lines cs

-- its line of the journal, with its position from 1, and a line for each touched cell
pub record EventTold (lines : List Line) (e : EventName) (text : List ℕ) : Type 0 where
  pub p : ℕ
  pub l : Line
  pub place : place_of lines e ≡ Some p
  pub at : slice_get lines p ≡ Some l
  pub cells : List (ToldCell × Told)
  pub touched : Cells lines l.entry cells
  pub whole : text ≡ entry_line (born lines) (p + 1) l ++ told_lines cells
