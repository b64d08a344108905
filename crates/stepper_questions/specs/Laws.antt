-- What holds of chains and of what is refused.
use Rattle.std.specs.Prelude.{◌≡◌, ℕ, ◌<◌, ◌+◌, Bool, true, ◌&&◌, ◌||◌, List, ◌∷◌, Some, slice_get}
use Rattle.ids.specs.declared.cells.CellKey.{CellKey}
use Rattle.ids.specs.declared.names.EventName.{EventName}
use Rattle.history.specs.Chains.{wrote}
use Rattle.history.specs.Journal.{Entry}
use Rattle.history.specs.Subject.{meets, touches}
use Rattle.journal.specs.Items.{Item}
use Rattle.journal.specs.Lines.{plain, Line, lines_of}
use Rattle.causality.specs.Journals.{IsJournal}
use Rattle.causality.specs.Selections.{name_of, first_gap, first_missing_cause, first_crossing}
use Rattle.causality.specs.declared.selection.Gap.{Gap}
use Rattle.stepper_questions.specs.Chains.{Chain, Consequence}

-- there is a chain of a step or more exactly where the later line is a consequence of the earlier one
abbrev pub ChainsAreConsequences : Type 0
ChainsAreConsequences = (items : List Item) → IsJournal items → (s q : ℕ) →
    ((r : ℕ) (ps : List ℕ) → Chain (lines_of items) s (q ∷ r ∷ ps) → Consequence (lines_of items) s q)
    × (Consequence (lines_of items) s q → (r : ℕ) × (ps : List ℕ) × Chain (lines_of items) s (q ∷ r ∷ ps))

-- two events stand in the journal, and a chain leads from the first to the second
pub record Comes (lines : List Line) (e f : EventName) : Type 0 where
  pub p : ℕ
  pub q : ℕ
  pub a : Line
  pub b : Line
  pub first : slice_get lines p ≡ Some a
  pub second : slice_get lines q ≡ Some b
  pub from : name_of a ≡ e
  pub to : name_of b ≡ f
  pub before : ℕ
  pub places : List ℕ
  pub chain : Chain lines p (q ∷ before ∷ places)

-- one of two entries wrote a cell that the other touched
abbrev pub crosses : Entry plain → Entry plain → CellKey → Bool
crosses a b k = touches plain a.foot k && touches plain b.foot k && (wrote plain k a || wrote plain k b)

-- two events stand in the journal, the first one before, and cross at a cell
pub record Crosses (lines : List Line) (e f : EventName) : Type 0 where
  pub p : ℕ
  pub q : ℕ
  pub a : Line
  pub b : Line
  pub first : slice_get lines p ≡ Some a
  pub second : slice_get lines q ≡ Some b
  pub order : p < q
  pub from : name_of a ≡ e
  pub to : name_of b ≡ f
  pub k : CellKey
  pub cross : crosses a.entry b.entry k ≡ true

-- what an undo or a redo is refused for is explained: of a gap the second event came of the first, of a missing cause the first came of the second,
-- and where the first crosses the second there is a cell at which they cross
pub record RefusalsAreExplained : Type 0 where
  pub gaps : (items : List Item) → IsJournal items → (names : List EventName) (g : Gap) → first_gap names (lines_of items) ≡ Some g → Comes (lines_of items) g.event g.other
  pub missing : (items : List Item) → IsJournal items → (names : List EventName) (g : Gap) → first_missing_cause names (lines_of items) ≡ Some g → Comes (lines_of items) g.other g.event
  pub crossings : (items : List Item) (names : List EventName) (g : Gap) → first_crossing names (lines_of items) ≡ Some g → Crosses (lines_of items) g.other g.event
  pub neighbours : (lines : List Line) (p : ℕ) (a b : Line) → slice_get lines p ≡ Some a → slice_get lines (p + 1) ≡ Some b → (meets plain a.entry.foot b.entry.foot ≡ true) → Crosses lines (name_of a) (name_of b)
  pub turned : (lines : List Line) (p : ℕ) (a b : Line) → slice_get lines p ≡ Some a → slice_get lines (p + 1) ≡ Some b → (meets plain b.entry.foot a.entry.foot ≡ true) → Crosses lines (name_of a) (name_of b)
