-- How one event came of another: chains of events, each of which had written last what the next one touched.
use Rattle.std.specs.Prelude.{◌≡◌, ℕ, ◌<◌, ◌≤◌, ◌⊎◌, true, List, [], ◌∷◌, length, Some, slice_get}
use Rattle.history.specs.Subject.{touches}
use Rattle.history.specs.Journal.{caused}
use Rattle.ids.specs.declared.cells.CellKey.{CellKey}
use Rattle.journal.specs.Lines.{plain, Line}
use Rattle.causality.specs.Selections.{name_of}
use Rattle.stepper_questions.specs.Writers.{writer}

-- a step leads from the line at a place to that at another one by a cell: this one touched the cell, and the other is its writer, whatever the marks
pub record Step (lines : List Line) (p : ℕ) (k : CellKey) (q : ℕ) : Type 0 where
  pub from : Line
  pub to : Line
  pub starts : slice_get lines p ≡ Some from
  pub ends : slice_get lines q ≡ Some to
  pub touched : touches plain to.entry.foot k ≡ true
  pub by : writer lines to.entry k ≡ Some ((name_of from).0)

-- a chain goes by steps from the line at a place; these are the places of its lines, the last one first
pub data Chain (lines : List Line) (s : ℕ) : List ℕ → Type 0 where
  chain_none : Chain lines s (s ∷ [])
  chain_more : {p q : ℕ} {ps : List ℕ} (k : CellKey) → Chain lines s (p ∷ ps) → Step lines p k q → Chain lines s (q ∷ p ∷ ps)

-- where two rows of places first differ, the first has the lesser one
abbrev pub NoLater : List ℕ → List ℕ → Type 0
NoLater (q ∷ qs) (p ∷ ps) = (q < p) ⊎ ((q ≡ p) × NoLater qs ps)
NoLater qs ps = Unit {0}

-- the chain from one place to another, with these places before the last: there is none of fewer steps, and among those of as many it is that of
-- the nearest causes: the last line but one stands last in the journal, then the one before it, and so on
pub record Nearest (lines : List Line) (s l : ℕ) (ps : List ℕ) : Type 0 where
  pub chain : Chain lines s (l ∷ ps)
  pub least : (qs : List ℕ) → Chain lines s (l ∷ qs) → length ps ≤ length qs
  pub nearest : (qs : List ℕ) → Chain lines s (l ∷ qs) → length qs ≡ length ps → NoLater qs ps

-- the line at a place is a consequence of that at another: it has it as a cause, or has as a cause one of its consequences
pub data Consequence (lines : List Line) (s : ℕ) : ℕ → Type 0 where
  consequence_next : {q : ℕ} (a b : Line) → slice_get lines s ≡ Some a → slice_get lines q ≡ Some b → caused plain b.entry a.entry ≡ true → Consequence lines s q
  consequence_more : {p q : ℕ} (a b : Line) → Consequence lines s p → slice_get lines p ≡ Some a → slice_get lines q ≡ Some b → caused plain b.entry a.entry ≡ true → Consequence lines s q
