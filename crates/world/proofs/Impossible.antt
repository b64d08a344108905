-- Why events are impossible.
use Rattle.std.proofs.Common.{◌≡◌, ℕ, Bool, true, false, List, refl, ap, subst}
use Rattle.std.proofs.lemmas.Bool.{false≢true}
use Rattle.ids.specs.declared.names.EventName.{EventName}
use Rattle.ids.specs.declared.names.VatNo.{VatNo}
use Rattle.ids.specs.declared.names.MsgId.{MsgId}
use Rattle.kernele.specs.Tree.{Name, Trees}
use Rattle.post.specs.Messages.{Vat}
use Rattle.world_cells.specs.Events.{Act, birth, turn, Event}
use Rattle.world_cells.specs.World.{World}
use Rattle.event.specs.Events.{Foot, AreNamed, Turn, Turns, Does, births, asks, arrives, forwards, learns, turns}
use Rattle.world.specs.Steps.{Unnamed, TellsStep}
use Rattle.world.specs.declared.step.StepFault.{StepFault}
use Rattle.world.specs.declared.step.StepFault.TheVariants as faults

-- ---- births

-- of a script that knows names of which one is of no vat
no_birth : (e : EventName) (x : Name) (earlier : List Name) (script : Trees) (w : World) → ((vs : List Vat) → AreNamed w earlier vs → ⊥) → (f : Foot) → Does (record { name = e; act = birth x earlier script }) w f → ⊥
no_birth e x earlier script w h f (births vats free named) = h vats named

pub tells_unnamed : (fault : StepFault) (e : EventName) (x : Name) (earlier : List Name) (script : Trees) (w : World) → Unnamed w earlier fault → TellsStep (record { name = e; act = birth x earlier script }) w fault
tells_unnamed faults.Impossible e x earlier script w h = no_birth e x earlier script w h
tells_unnamed faults.Memory e x earlier script w h = tt

-- ---- turns

-- a turn of a message at this vat
pub record TurnAt (e : EventName) (w : World) (v : VatNo) (m : MsgId) (n : ℕ) : Type 0 where
  pub turn : Turn
  pub vat : turn.vat ≡ v
  pub turns : Turns e w m n turn

-- whether an act is a turn; its vat, its message and its budget, or other ones where it is none
abbrev is_turn : Act → Bool
is_turn (turn v m n) = true
is_turn _ = false

abbrev vat_or : VatNo → Act → VatNo
vat_or u (turn v m n) = v
vat_or u _ = u

abbrev message_or : MsgId → Act → MsgId
message_or k (turn v m n) = m
message_or k _ = k

abbrev budget_or : ℕ → Act → ℕ
budget_or b (turn v m n) = n
budget_or b _ = b

turn_in : (d : Event) (w : World) (f : Foot) → Does d w f → (e : EventName) (v : VatNo) (m : MsgId) (n : ℕ) → d ≡ record { name = e; act = turn v m n } → TurnAt e w v m n
turn_in d w f (births vats free named) e v m n is = absurd (false≢true (ap (λ (x : Event). is_turn x.act) is))
turn_in d w f (asks there) e v m n is = absurd (false≢true (ap (λ (x : Event). is_turn x.act) is))
turn_in d w f (arrives there to) e v m n is = absurd (false≢true (ap (λ (x : Event). is_turn x.act) is))
turn_in d w f (forwards there at call to) e v m n is = absurd (false≢true (ap (λ (x : Event). is_turn x.act) is))
turn_in d w f (learns here told leaves) e v m n is = absurd (false≢true (ap (λ (x : Event). is_turn x.act) is))
turn_in d w f (turns {e = a} {m = k} {budget = b} {t = t} q leaves) e v m n is = record {
  turn = t;
  vat = ap (λ (x : Event). vat_or t.vat x.act) is;
  turns = subst (λ (x : ℕ). Turns e w m x t) (ap (λ (x : Event). budget_or b x.act) is)
      (subst (λ (x : MsgId). Turns e w x b t) (ap (λ (x : Event). message_or k x.act) is)
      (subst (λ (x : EventName). Turns x w k b t) (ap (λ (x : Event). x.name) is) q));
}

pub turn_at : (e : EventName) (w : World) (v : VatNo) (m : MsgId) (n : ℕ) (f : Foot) → Does (record { name = e; act = turn v m n }) w f → TurnAt e w v m n
turn_at e w v m n f d = turn_in (record { name = e; act = turn v m n }) w f d e v m n refl
