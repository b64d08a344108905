-- What deliveries and learnt values do to fences.
use Rattle.std.specs.Prelude.{◌≡◌, ℕ, Bool, false, List, Option, Some, None}
use Rattle.std.specs.List.{AllByRecursion}
use Rattle.ids.specs.declared.names.EventName.{EventName}
use Rattle.ids.specs.declared.names.VatNo.{VatNo}
use Rattle.ids.specs.declared.names.MsgId.{MsgId}
use Rattle.ids.specs.declared.names.PromId.{PromId}
use Rattle.ids.specs.declared.reference.Reference.{Reference}
use Rattle.cells.specs.Doing.{and_then}
use Rattle.eorder.specs.Acts.{Act, sent, left, came, joined, Fences}
use Rattle.eorder.specs.Carried.{Carried}
use Rattle.eorder.specs.Fences.{member}
use Rattle.eorder.specs.Places.{Carrier, argument, published, carried}
use Rattle.eorder.specs.Worlds.{after_acts}
use Rattle.heap.specs.State.{State}
use Rattle.post.specs.Delivery.{Delivery, sent as sent_call}
use Rattle.post.specs.Messages.{Message, Published}
use Rattle.sends.specs.Vats.{names_for, entered, references, coming_in}
use Rattle.eval_rules.specs.At.{At}
use Rattle.eval_rules.specs.Doings.{behind}
use Rattle.eval_rules.specs.Outbox.{Outbox, empty_outbox}
use Rattle.turn_deliveries.specs.Turn.{Found, Outcome, Delivers}
use Rattle.event_ordering.specs.Acts.{delivery_acts, learning_place, learning_acts}
use Rattle.event_ordering.specs.Reading.{turn_fences, NoneDone}

-- if the act sends a message, it has the event's name
abbrev pub IsSentBy : EventName → Act → Type 0
IsSentBy e (sent m t) = m.event ≡ e
IsSentBy e (left r c) = Unit {0}
IsSentBy e (came r c t) = Unit {0}
IsSentBy e (joined p t) = Unit {0}

-- what comes in with a carrier are just the names that travel in it
abbrev pub Brings : Fences → Carrier → Carried → Type 0
Brings base c fs = (r : Reference) (m : MsgId) → base (carried c r) m ≡ member (names_for fs r) m

-- so it is of the publication at which a walk ended; where it went through none, nothing comes with its end
abbrev pub BringsLast : Fences → Option PromId → Carried → Type 0
BringsLast base (Some p) fs = Brings base (published p) fs
BringsLast base None fs = (r : Reference) (m : MsgId) → member (names_for fs r) m ≡ false

-- what a delivery brings travels in its message and in that publication
abbrev pub BringsAll : Fences → MsgId → Option PromId → Delivery → Found → Type 0
BringsAll base m p (sent_call c) f = Brings base (argument m) c.fences × BringsLast base p f.fences
BringsAll base m p d f = Unit {0}

-- a vat in the state s came to the state t, and made this: the fences are just what the acts make of those from before, each message that
-- is sent has the event's name, and none is done
pub record DoneBy (base : Fences) (before : PromId → Bool) (e : EventName) (v : VatNo) (s : State) (acts : List Act) (t : State) (out : Outbox) : Type 0 where
  pub fences : turn_fences base v before e t out ≡ after_acts v acts (turn_fences base v before e s empty_outbox)
  pub sends : AllByRecursion (IsSentBy e) acts
  pub undone : NoneDone out.letters

-- what a delivery does to fences is done by its acts: an abandoned turn has none
abbrev pub DeliveriesAct : Type 0
DeliveriesAct = (base : Fences) (before : PromId → Bool) (m : MsgId) (p : Option PromId) (g : Message) (f : Found) (e : EventName) (v : VatNo) (s : State) (n : ℕ) (o : Outcome) (r : Delivers g f e v s n o)
    → BringsAll base m p g.delivery f → DoneBy base before e v s (delivery_acts before m p r) o.state o.out

-- where a vat stands once it learnt what a promise was published as
abbrev pub learnt_at : State → PromId → Published → At
learnt_at s p b = behind (and_then (entered p b.value) (λ t. coming_in b.fences (references b.value))) (learning_place s)

-- and so is what a vat learns
abbrev pub LearningActs : Type 0
LearningActs = (base : Fences) (before : PromId → Bool) (e : EventName) (v : VatNo) (s : State) (p : PromId) (b : Published)
    → Brings base (published p) b.fences → DoneBy base before e v s (learning_acts s p b) (learnt_at s p b).state empty_outbox
