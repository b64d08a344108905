-- What a delivery runs from the place where its turn begins, and what the program's outcome tells of where it ended.
use Rattle.std.specs.Prelude.{◌≡◌, Bool, true, false, Some}
use Rattle.ids.specs.declared.names.PromId.{PromId}
use Rattle.values.specs.Data.{null}
use Rattle.heap.specs.State.{Cell, Content}
use Rattle.heap.specs.Drafts.{began_with, touched_of, writes_of}
use Rattle.heap.specs.Found.{Found as FoundCells, touched_in, writes_in}
use Rattle.post.specs.Delivery.{Delivery, opening, asked, sent, waiting}
use Rattle.sends.specs.Vats.{ended}
use Rattle.eval_rules.specs.At.{At}
use Rattle.eval_rules.specs.Doings.{given_by, behind}
use Rattle.eval_rules.specs.Outcomes.{End}
use Rattle.eval_rules.specs.OutboxView.{outbox_of}
use Rattle.eval_rules.specs.Rules.{Items}
use Rattle.eval_rules.specs.declared.working.Working.{Working}
use Rattle.turn_deliveries.specs.Outcomes.{told_of, written_by}
use Rattle.turn_deliveries.specs.Turn.{Found, Led, Told, knowing, call_met, call_meeting, when_met, telling, telling_at, ending_at, outcome_by}
use Rattle.turn_deliveries.specs.declared.outcome.TurnEnd.{TurnEnd}
use Rattle.turn_deliveries.specs.declared.outcome.Outcome.{Outcome}

-- a script is evaluated in the vat's own scope
abbrev pub is_opening : Delivery → Bool
is_opening (opening earlier ts) = true
is_opening _ = false

-- from this place a delivery whose target leads there ends so
abbrev pub Does : Delivery → Found → At → End → At → Type 0
Does (opening earlier ts) f a o b = Items 1 null ts (knowing earlier a) o b
Does (asked ts) f a o b = Items 1 null ts a o b
Does (sent c) f a o b = Led (call_met c f a) (call_meeting c f a) o b
Does (waiting w) f a o b = Led (when_met w (given_by (ended w.value) a)) (behind (ended w.value) a) o b

-- a turn that told this at this place left this outcome, and published its result
pub record Leaves (x : Outcome) (p : PromId) (t : Told) (b : At) : Type 0 where
  pub touched : touched_in x.footprint ≡ (ending_at p t b).touched
  pub written : written_by x ≡ (ending_at p t b).written
  pub holds : (c : Cell) (y : Content) → writes_in x.footprint c ≡ Some y → (ending_at p t b).state c ≡ Some y
  pub found : FoundCells x.footprint b.began
  pub told : told_of x.ended ≡ t
  pub left : x.steps ≡ b.left
  pub out : outbox_of x.out ≡ (outcome_by b.began p t (ending_at p t b)).out

-- the same of a turn whose delivery ended so at this place
abbrev pub RunsTo : Outcome → PromId → End → At → Type 0
RunsTo x p o b = Leaves x p (telling o b) (telling_at o b)

-- what is left of a turn that stands here and ended so
pub record IsLeft (w : Working) (e : TurnEnd) (x : Outcome) : Type 0 where
  pub touched : touched_in x.footprint ≡ touched_of w.draft
  pub written : writes_in x.footprint ≡ writes_of w.draft
  pub found : FoundCells x.footprint (began_with w.draft)
  pub ended : x.ended ≡ e
  pub steps : x.steps ≡ w.steps
  pub out : x.out ≡ w.out

-- what is left of this turn is what one leaves that told this at this place
abbrev pub LeavesAtEnd : Working → TurnEnd → PromId → Told → At → Type 0
LeavesAtEnd w e p t b = (x : Outcome) → IsLeft w e x → Leaves x p t b

-- the same of a turn whose delivery ended so at this place
abbrev pub RunsToEnd : Working → TurnEnd → PromId → End → At → Type 0
RunsToEnd w e p o b = LeavesAtEnd w e p (telling o b) (telling_at o b)
