-- Who had written a cell last when an entry was made, and the cells that an entry touched.
use Rattle.std.specs.Prelude.{ℕ, Bool, cond, List, [], ◌∷◌, Option, Some, None}
use Rattle.history.specs.Subject.{touches}
use Rattle.history.specs.Journal.{Entry, caused}
use Rattle.history.specs.Chains.{wrote, last_writer}
use Rattle.ids.specs.declared.cells.CellKey.{CellKey}
use Rattle.journal.specs.Lines.{plain, Line, entries_in}
use Rattle.stepper_printing.specs.Show.{Lists}
use Rattle.stepper_questions.specs.Cells.{key_of, cell_cmp}
use Rattle.stepper_questions.specs.declared.cell.ToldCell.{ToldCell}

-- the last of an entry's causes, in the journal's order, that wrote a cell: whatever became of it since
abbrev pub writer : List Line → Entry plain → CellKey → Option ℕ
writer lines e k = last_writer plain k (caused plain e) (entries_in lines)

-- what is told of a cell that an entry touched: its writer, and whether the entry wrote it too
pub record Told : Type 0 where
  pub writer : Option ℕ
  pub written : Bool

-- what is told of a cell; nothing where the entry did not touch it
abbrev pub told : List Line → Entry plain → CellKey → Option Told
told lines e k = cond (touches plain e.foot k) (Some (record { writer = writer lines e k; written = wrote plain k e })) None

-- the cells that an entry touched, each once and in order, found absent or not, with what is told of them
abbrev pub Cells : List Line → Entry plain → List (ToldCell × Told) → Type 0
Cells lines e cells = Lists cell_cmp (λ c. told lines e (key_of c)) cells

-- the first of these cells that passes a test
abbrev pub first_cell : (ToldCell → Told → Bool) → List (ToldCell × Told) → Option ToldCell
first_cell test [] = None
first_cell test (c ∷ cs) = cond (test c.0 c.1) (Some c.0) (first_cell test cs)
