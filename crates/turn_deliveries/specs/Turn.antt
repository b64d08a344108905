-- A turn: one delivery to a vat.
use Rattle.std.specs.Prelude.{ℕ, Bool, true, false, Option, Some, None, List, [], ◌∷◌, codes}
use Rattle.ids.specs.declared.names.EventName.{EventName}
use Rattle.ids.specs.declared.names.VatNo.{VatNo}
use Rattle.ids.specs.declared.names.PromId.{PromId}
use Rattle.eorder.specs.Carried.{Carried}
use Rattle.cells.specs.Doing.{over, and_then}
use Rattle.kernele.specs.Tree.{Name, Trees}
use Rattle.values.specs.Data.{Val, null, text, list, broken, promise, Reply, gives as gives_value, throws}
use Rattle.heap.specs.State.{fixed, Nouns, State, no_cells}
use Rattle.post.specs.Delivery.{Call, Handler, When, Delivery, opening, asked, sent, waiting}
use Rattle.post.specs.Messages.{Message}
use Rattle.post.specs.declared.earlier.Earlier.{Earlier}
use Rattle.sends.specs.Vats.{Vat, Nothing, nothing, ended, settled, references_in, comes_in, coming_in}
use Rattle.sends.specs.Making.{Making, Published, ending}
use Rattle.eval_rules.specs.Outbox.{comment_note, resolved_note, Outbox, empty_outbox}
use Rattle.eval_rules.specs.At.{At}
use Rattle.eval_rules.specs.Doings.{given_by, behind, noted, published_out, resolver_end, resolver_out}
use Rattle.eval_rules.specs.Outcomes.{Cause, thrown, ejected, abandoned, reason, End, value, halt, values}
use Rattle.eval_rules.specs.Rules.{binding, named, inside, Target, gives, enters, uses, target_of, called, Items}

-- where a turn of a vat begins: no names but the top nouns, the whole budget, nothing made, no Escape begun, and no cell touched
abbrev pub start : Bool → EventName → VatNo → State → ℕ → At
start own e v s budget = record { nouns = []; own_scope = own; state = s; left = budget; event = e; vat = v; began = s; slots = 0; objects = 0; ejectors = 0; opened = []; touched = no_cells; written = no_cells; out = empty_outbox }

-- ---- what is delivered

-- the name of each earlier vat stands for the promise of its opening, which comes in
abbrev pub knowing : List Earlier → At → At
knowing [] a = a
knowing (x ∷ xs) a = knowing xs (binding x.name (fixed (promise x.opening)) (behind (comes_in x.opening) a))

-- where the target of a message leads by what was published: its end, and the fences that were published with that
pub record Found : Type 0 where
  pub end : Val
  pub fences : Carried

-- a list at which a walk ends comes in; anything else is a matter of the vat already
abbrev pub list_coming : Carried → Val → Vat Nothing
list_coming fences (list vs) = coming_in fences (references_in vs)
list_coming fences v = over nothing

-- what a call brings in: its arguments, and then the list on which it is made
abbrev pub call_coming : Call → Found → Vat Nothing
call_coming c f = and_then (coming_in c.fences (references_in c.arguments)) (λ n. list_coming f.fences f.end)

-- so a call that was sent is made on the end of its target
abbrev pub call_met : Call → Found → At → Target
call_met c f a = target_of f.end c.verb (values c.arguments) (behind (call_coming c f) a)

abbrev pub call_meeting : Call → Found → At → At
call_meeting c f a = called f.end c.verb (values c.arguments) (behind (call_coming c f) a)

-- what a problem leads to: the handler, if there is one
abbrev pub handled : Name → Nouns → Option Handler → Target
handled problem ns None = gives (halt (thrown problem))
handled problem ns (Some h) = enters (named h.pattern (text problem) ns) h.block

-- what a when runs, by the end of its value
abbrev pub when_met : When → Val → Target
when_met w (broken problem) = handled problem w.captured w.handler
when_met w v = enters w.captured w.block

-- what a target comes to, at the first level
pub data Led : Target → At → End → At → Type 0 where
  led_gives : {o : End} {a : At} → Led (gives o) a o a
  led_uses : {p : PromId} {d : Vat (Making Published)} {a : At} → Led (uses p d) a (resolver_end (given_by d a)) (resolver_out p (given_by d a) (behind d a))
  led_enters : {ns : Nouns} {body : Trees} {a b : At} {o : End} → Items 1 null body (inside ns a) o b → Led (enters ns body) a o b

-- at an event, in a vat's state s and with this budget, a delivery whose target leads there ends so: the items of what it runs are at level 1
pub data Begins : Delivery → Found → EventName → VatNo → State → ℕ → End → At → Type 0 where
  opens : {earlier : List Earlier} {ts : Trees} {f : Found} {e : EventName} {v : VatNo} {s : State} {n : ℕ} {o : End} {b : At} → Items 1 null ts (knowing earlier (start true e v s n)) o b → Begins (opening earlier ts) f e v s n o b
  asks : {ts : Trees} {f : Found} {e : EventName} {v : VatNo} {s : State} {n : ℕ} {o : End} {b : At} → Items 1 null ts (start false e v s n) o b → Begins (asked ts) f e v s n o b
  calls : {c : Call} {f : Found} {e : EventName} {v : VatNo} {s : State} {n : ℕ} {o : End} {b : At} → Led (call_met c f (start false e v s n)) (call_meeting c f (start false e v s n)) o b → Begins (sent c) f e v s n o b
  waits : {w : When} {f : Found} {e : EventName} {v : VatNo} {s : State} {n : ℕ} {o : End} {b : At}
      → Led (when_met w (given_by (ended w.value) (start false e v s n))) (behind (ended w.value) (start false e v s n)) o b → Begins (waiting w) f e v s n o b

-- ---- how a turn ends

-- what a turn tells: a value or a problem, or why nothing of it is kept
pub data Told : Type 0 where
  told : (r : Reply) → Told
  lost : (why : Cause) → Told

-- a settled form, if there is one
abbrev pub settled_reply : Option Val → Reply
settled_reply (Some v) = gives_value v
settled_reply None = throws (codes "value too large")

-- a value is settled; a value on its way to an Escape does not leave its Escape and so no turn
abbrev pub telling : End → At → Told
telling (value v) b = told (settled_reply (given_by (settled v) b))
telling (halt (thrown problem)) b = told (throws problem)
telling (halt (ejected j v)) b = told (throws (codes "ejector is spent"))
telling (halt (abandoned why)) b = lost why

abbrev pub telling_at : End → At → At
telling_at (value v) b = behind (settled v) b
telling_at (halt h) b = b

-- what a turn leaves: the vat's state, what it told, the steps left, and what it made
pub record Outcome : Type 0 where
  pub state : State
  pub told : Told
  pub left : ℕ
  pub out : Outbox

-- a problem stands in the log
abbrev pub commented : Reply → Outbox → Outbox
commented (gives_value v) out = out
commented (throws problem) out = noted (comment_note problem ∷ []) out

-- the place behind the publication of the result
abbrev pub published_at : PromId → Reply → At → At
published_at p r b = record (behind (ending p r) b) { out = published_out p (given_by (ending p r) b) (commented r b.out) }

-- of an abandoned turn nothing is kept but that its result is broken
abbrev pub lost_outbox : PromId → Cause → Outbox
lost_outbox p why = record { letters = []; promises = 0; publications = (p, record { value = broken (reason why); fences = [] }) ∷ []; notes = comment_note (reason why) ∷ resolved_note p ∷ [] }

-- the place where a turn ended that told this: an abandoned turn publishes nothing from its vat
abbrev pub ending_at : PromId → Told → At → At
ending_at p (told r) b = published_at p r b
ending_at p (lost why) b = b

abbrev pub outcome_by : State → PromId → Told → At → Outcome
outcome_by s p (told r) b = record { state = b.state; told = told r; left = b.left; out = b.out }
outcome_by s p (lost why) b = record { state = s; told = lost why; left = b.left; out = lost_outbox p why }

-- where the turn of a message ended whose delivery ended as o at b, and what it leaves
abbrev pub finish : PromId → End → At → At
finish p o b = ending_at p (telling o b) (telling_at o b)

abbrev pub outcome : State → PromId → End → At → Outcome
outcome s p o b = outcome_by s p (telling o b) (finish p o b)

-- a message whose target leads there has this outcome
pub data Delivers : Message → Found → EventName → VatNo → State → ℕ → Outcome → Type 0 where
  delivers : {g : Message} {f : Found} {e : EventName} {v : VatNo} {s : State} {n : ℕ} {o : End} {b : At} → Begins g.delivery f e v s n o b → Delivers g f e v s n (outcome s g.result o b)
