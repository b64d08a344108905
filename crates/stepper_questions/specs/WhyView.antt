-- What is told of two places, part after part.
use Rattle.std.specs.Prelude.{◌≡◌, ℕ, suc, ◌<◌, ◌≤◌, Bool, List, [], ◌∷◌, ◌++◌, length, Some, Result, Ok, Err, slice_get, codes}
use Rattle.std.specs.Fmt.{decimal}
use Rattle.ids.specs.Names.{event_text}
use Rattle.ids.specs.declared.names.EventName.{EventName}
use Rattle.journal.specs.Lines.{Line}
use Rattle.causality.specs.Selections.{name_of}
use Rattle.stepper_questions.specs.Chains.{Chain}
use Rattle.stepper_questions.specs.Refusals.{standing_of, event_refusal, pair_refusal, Refuses}
use Rattle.stepper_questions.specs.TouchedView.{seen_as}
use Rattle.stepper_questions.specs.Why.{step_text, is_by, crossed_with, Steps}
use Rattle.stepper_questions.specs.Writers.{Told, Cells, first_cell}
use Rattle.stepper_questions.specs.declared.cell.ToldCell.{ToldCell}
use Rattle.stepper_questions.specs.declared.reason.ChainLink.{ChainLink}
use Rattle.stepper_questions.specs.declared.reason.Relation.{Relation}
use Rattle.stepper_questions.specs.declared.reason.Relation.TheVariants as relation
use Rattle.stepper_questions.specs.declared.reason.ToldReason.{ToldReason}
use Rattle.stepper_questions.specs.declared.standing.Standing.TheVariants as standing
use Rattle.stepper_questions.specs.declared.touched.Seen.{Seen}
use Rattle.stepper_questions.specs.declared.unanswered.Unanswered.{Unanswered}

-- another entry, which has these, crosses at a cell
abbrev pub crossed_in : List (ToldCell × Seen) → ToldCell → Told → Bool
crossed_in es c t = crossed_with (seen_as es c) t

-- the line of a step
abbrev pub link_text : ChainLink → List ℕ
link_text l = step_text l.from l.to l.cell

abbrev pub links_text : List ChainLink → List ℕ
links_text [] = []
links_text (l ∷ ls) = link_text l ++ links_text ls

-- how many steps a chain has, and these
abbrev pub chain_text : List ChainLink → List ℕ
chain_text links = decimal (length links) ++ (10 ∷ links_text links)

abbrev pub relation_text : Relation → List ℕ
relation_text (relation.Chained links) = chain_text links.items
relation_text (relation.Crossed l) = codes "crossed\n" ++ link_text l
relation_text relation.Neither = codes "none\n"

-- why E F, and how they have to do with one another
abbrev pub reason_text : ToldReason → List ℕ
reason_text t = codes "why " ++ (event_text t.event ++ (codes " " ++ (event_text t.other ++ (codes " " ++ relation_text t.relation))))

-- this is the step between two places
pub record IsLink (lines : List Line) (p q : ℕ) (link : ChainLink) : Type 0 where
  pub from : Line
  pub to : Line
  pub starts : slice_get lines p ≡ Some from
  pub ends : slice_get lines q ≡ Some to
  pub leaves : link.from ≡ name_of from
  pub reaches : link.to ≡ name_of to
  pub cells : List (ToldCell × Told)
  pub listed : Cells lines to.entry cells
  pub first : first_cell (is_by (name_of from)) cells ≡ Some link.cell

-- these are the steps along a chain of places, the last one first
pub record AreLinks (lines : List Line) (places : List ℕ) (links : List ChainLink) : Type 0 where
  pub steps : Steps lines places (links_text links)
  pub count : suc (length links) ≡ length places

-- a chain of which all places are behind the settled ones
pub record OpenChain (lines : List Line) (base end : ℕ) (places : List ℕ) : Type 0 where
  pub s : ℕ
  pub l : ℕ
  pub ps : List ℕ
  pub are : places ≡ l ∷ ps
  pub chain : Chain lines s (l ∷ ps)
  pub behind : base ≤ s
  pub before : l < end

-- the place of an event behind the settled ones, or why it has none
abbrev pub IsOpen : ℕ → List Line → EventName → Result ℕ Unanswered → Type 0
IsOpen n lines e (Ok p) = standing_of n lines e ≡ standing.Open p
IsOpen n lines e (Err fault) = Refuses fault (event_refusal n lines e)

-- the places of both events behind the settled ones, or why one has none
abbrev pub BothOpen : ℕ → List Line → EventName → EventName → Result (ℕ × ℕ) Unanswered → Type 0
BothOpen n lines e f (Ok (p, q)) = (standing_of n lines e ≡ standing.Open p) × (standing_of n lines f ≡ standing.Open q)
BothOpen n lines e f (Err fault) = Refuses fault (pair_refusal n lines e f)
