-- What is told of how the later of two events came of the earlier.
use Rattle.std.specs.Prelude.{◌≡◌, ℕ, ◌<◌, Bool, false, ◌||◌, List, [], ◌∷◌, ◌++◌, length, Option, Some, None, slice_get, codes}
use Rattle.std.specs.Fmt.{decimal}
use Rattle.history.specs.Journal.{Entry}
use Rattle.history.specs.Chains.{is_name}
use Rattle.ids.specs.Names.{event_text}
use Rattle.ids.specs.declared.names.EventName.{EventName}
use Rattle.journal.specs.Lines.{plain, Line}
use Rattle.causality.specs.Selections.{name_of}
use Rattle.stepper_questions.specs.Cells.{cell_text, key_of}
use Rattle.stepper_questions.specs.Writers.{Told, told, Cells, first_cell}
use Rattle.stepper_questions.specs.Chains.{Chain, Nearest}
use Rattle.stepper_questions.specs.declared.cell.ToldCell.{ToldCell}
use Rattle.stepper_questions.specs.Refusals.{place_of}

--  A B CELL
abbrev pub step_text : EventName → EventName → ToldCell → List ℕ
step_text a b c = codes " " ++ (event_text a ++ (codes " " ++ (event_text b ++ (codes " " ++ (cell_text c ++ (10 ∷ []))))))

-- the writer of a cell that is told is an event
abbrev pub is_by : EventName → ToldCell → Told → Bool
is_by e c t = is_name t.writer e.0

-- the steps along a chain of places, the last one first, in their order: each by the first cell that leads from one line to the next
pub data Steps (lines : List Line) : List ℕ → List ℕ → Type 0 where
  steps_none : {p : ℕ} → Steps lines (p ∷ []) []
  steps_more : {p q : ℕ} {ps : List ℕ} {a b : Line} {cells : List (ToldCell × Told)} {c : ToldCell} {text : List ℕ}
      → Steps lines (p ∷ ps) text → slice_get lines p ≡ Some a → slice_get lines q ≡ Some b → Cells lines b.entry cells → first_cell (is_by (name_of a)) cells ≡ Some c
      → Steps lines (q ∷ p ∷ ps) (text ++ step_text (name_of a) (name_of b) c)

-- a cell is touched by another entry too, and one of the two wrote it
abbrev pub crossed_with : Option Told → Told → Bool
crossed_with None t = false
crossed_with (Some u) t = u.written || t.written

-- the first of the cells of a later entry at which an earlier one crosses it
abbrev pub first_crossed : List Line → Entry plain → List (ToldCell × Told) → Option ToldCell
first_crossed lines a cells = first_cell (λ c t. crossed_with (told lines a (key_of c)) t) cells

-- of the lines at two places: the first cell at which they cross, or that there is none
pub data Crossing (lines : List Line) (s l : ℕ) : List ℕ → Type 0 where
  is_crossed : {a b : Line} {cells : List (ToldCell × Told)} {c : ToldCell} → slice_get lines s ≡ Some a → slice_get lines l ≡ Some b → Cells lines b.entry cells → first_crossed lines a.entry cells ≡ Some c
      → Crossing lines s l (codes "crossed\n" ++ step_text (name_of a) (name_of b) c)
  is_neither : {a b : Line} {cells : List (ToldCell × Told)} → slice_get lines s ≡ Some a → slice_get lines l ≡ Some b → Cells lines b.entry cells → first_crossed lines a.entry cells ≡ None
      → Crossing lines s l (codes "none\n")

-- the nearest chain from one to the other with its steps, or where there is none how they cross
pub data Reason (lines : List Line) (s l : ℕ) : List ℕ → Type 0 where
  is_chained : {ps text : List ℕ} → Nearest lines s l ps → Steps lines (l ∷ ps) text → Reason lines s l (decimal (length ps) ++ (10 ∷ text))
  is_apart : {text : List ℕ} → ((ps : List ℕ) → Chain lines s (l ∷ ps) → ⊥) → Crossing lines s l text → Reason lines s l text

-- of two places: from the earlier one to the later; there is no reason where they are one
pub data ReasonBetween (lines : List Line) (p q : ℕ) (text : List ℕ) : Type 0 where
  in_order : p < q → Reason lines p q text → ReasonBetween lines p q text
  turned : q < p → Reason lines q p text → ReasonBetween lines p q text
  at_one : p ≡ q → text ≡ codes "none\n" → ReasonBetween lines p q text

-- why E F REASON
pub record Why (lines : List Line) (e f : EventName) (text : List ℕ) : Type 0 where
  pub p : ℕ
  pub q : ℕ
  pub first : place_of lines e ≡ Some p
  pub second : place_of lines f ≡ Some q
  pub reason : List ℕ
  pub between : ReasonBetween lines p q reason
  pub whole : text ≡ codes "why " ++ (event_text e ++ (codes " " ++ (event_text f ++ (codes " " ++ reason))))
