-- What events do to the order of messages: the acts of turns and of what vats learn, the newest first.
use Rattle.std.specs.Prelude.{Bool, false, ℕ, List, [], ◌∷◌, ◌++◌, Option, Some, None}
use Rattle.ids.specs.declared.names.EventName.{EventName}
use Rattle.ids.specs.declared.names.VatNo.{VatNo}
use Rattle.ids.specs.declared.names.MsgId.{MsgId}
use Rattle.ids.specs.declared.names.PromId.{PromId}
use Rattle.ids.specs.declared.reference.Reference.{Reference}
use Rattle.eorder.specs.Places.{Carrier, argument, published}
use Rattle.eorder.specs.Acts.{Act, came}
use Rattle.values.specs.Data.{Val, list}
use Rattle.heap.specs.State.{State}
use Rattle.post.specs.Delivery.{Call, Delivery}
use Rattle.post.specs.Messages.{Message, Published}
use Rattle.sends.specs.Vats.{ended, entered, reference_in, references, references_in, value_of, each_once, coming_in}
use Rattle.sends.specs.Making.{ending}
use Rattle.event_ordering.specs.Acting.{acts_of_items, joined_to, published_acts, resolver_acts}
use Rattle.eval_rules.specs.At.{At}
use Rattle.eval_rules.specs.Doings.{given_by, behind}
use Rattle.eval_rules.specs.Outcomes.{End}
use Rattle.eval_rules.specs.Rules.{Target}
use Rattle.turn_deliveries.specs.Turn.{start, Found, call_coming, Led, led_gives, led_uses, led_enters, Begins, opens, asks, calls, waits, Told, told, lost, telling, telling_at, Outcome, Delivers, delivers}

-- a reference came in, and settles here to this, if that is a reference
abbrev pub came_act : Carrier → Reference → Option Reference → List Act
came_act c r None = []
came_act c r (Some t) = came r c t ∷ []

-- so did each of these, which settle as they do behind that
abbrev pub came_acts : Carrier → List Reference → At → List Act
came_acts c [] a = []
came_acts c (r ∷ rs) a = came_acts c rs a ++ came_act c r (reference_in (given_by (ended (value_of r)) a))

-- what comes in with a carrier, each reference once
abbrev pub arriving : Carrier → List Reference → At → List Act
arriving c rs a = came_acts c (each_once [] rs) a

-- a list at which a walk ends comes in with what it was published in; a list that is the target itself was not published
abbrev pub list_arriving : Option PromId → Val → At → List Act
list_arriving (Some p) (list vs) a = arriving (published p) (references_in vs) a
list_arriving _ v a = []

-- the arguments of a call come in, and then the list on which it is made, if it is made on one
abbrev pub call_acts : MsgId → Option PromId → Call → Found → At → List Act
call_acts m p c f a = list_arriving p f.end (behind (call_coming c f) a) ++ arriving (argument m) (references_in c.arguments) (behind (coming_in c.fences (references_in c.arguments)) a)

-- some promises were published before the turn: what is published for them again does not count
module _ (before : PromId → Bool) where
  -- what a target comes to
  abbrev pub led_acts : {t : Target} {a b : At} {o : End} → Led t a o b → List Act
  led_acts led_gives = []
  led_acts (led_uses {p = p} {d = d} {a = a}) = resolver_acts before p (given_by d a) a.out
  led_acts (led_enters r) = acts_of_items before r

  -- of a delivery: p is the promise whose publication its walk came to last
  abbrev pub begun_acts : MsgId → Option PromId → {d : Delivery} {f : Found} {e : EventName} {v : VatNo} {s : State} {n : ℕ} {o : End} {b : At} → Begins d f e v s n o b → List Act
  begun_acts m p (opens r) = acts_of_items before r
  begun_acts m p (asks r) = acts_of_items before r
  begun_acts m p (calls {c = c} {f = f} {e = e} {v = v} {s = s} {n = n} r) = led_acts r ++ call_acts m p c f (start false e v s n)
  begun_acts m p (waits r) = led_acts r

  -- and of its end: the result is published; of an abandoned turn nothing is kept
  abbrev pub kept_acts : PromId → Told → At → List Act → List Act
  kept_acts p (told r) b acts = published_acts before p (given_by (ending p r) b) b.out ++ acts
  kept_acts p (lost why) b acts = []

  abbrev pub delivery_acts : MsgId → Option PromId → {g : Message} {f : Found} {e : EventName} {v : VatNo} {s : State} {n : ℕ} {o : Outcome} → Delivers g f e v s n o → List Act
  delivery_acts m p (delivers {g = g} {o = o} {b = b} r) = kept_acts g.result (telling o b) (telling_at o b) (begun_acts m p r)

-- ---- what a vat learns

-- the place where a vat learns something: nothing but its cells matters
abbrev pub learning_place : State → At
learning_place s = start false (record { 0 = 0 }) (record { 0 = record { 0 = 0 } }) s 0

-- a promise is entered, and then what was published comes in
abbrev pub learning_acts : State → PromId → Published → List Act
learning_acts s p b = arriving (published p) (references b.value) (behind (coming_in b.fences (references b.value)) (behind (entered p b.value) (learning_place s)))
    ++ joined_to p (given_by (entered p b.value) (learning_place s))
