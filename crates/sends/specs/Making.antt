-- What a turn makes of a send, a when, a promise, the use of a resolver, and its own end.
use Rattle.std.specs.Prelude.{Bool, cond, Option, Some, None, List, codes}
use Rattle.ids.specs.declared.names.VatNo.{VatNo}
use Rattle.ids.specs.declared.names.MsgId.{MsgId}
use Rattle.ids.specs.declared.names.PromId.{PromId}
use Rattle.ids.specs.declared.names.ObjId.{ObjId}
use Rattle.ids.specs.declared.reference.Reference.{Reference}
use Rattle.cells.specs.Doing.{over, reads, writes, and_then}
use Rattle.eorder.specs.Carried.{Carried}
use Rattle.kernele.specs.Tree.{Name}
use Rattle.values.specs.Data.{Val, promise, broken, Vals, Reply, gives, throws}
use Rattle.values.specs.Replies.{text_in}
use Rattle.heap.specs.State.{view_cell, object_cell, pending, Content, made, resolver, viewed}
use Rattle.sends.specs.Vats.{Vat, ended, settled, all_settled, reference_in, references, references_in, leaving, comes_in, entered, sent_after, goes_to}

-- ---- what is made, or why not

-- a problem is thrown, or the turn is abandoned since it would make too much
pub data Refusal : Type 0 where
  problem : (words : Name) → Refusal
  turn_too_large : Refusal

pub data Making (R : Type 0) : Type 0 where
  refused : (why : Refusal) → Making R
  makes : (r : R) → Making R

abbrev pub value_too_large : Refusal
value_too_large = problem (codes "value too large")

-- what is made of a settled form, if there is one
abbrev pub of_settled : {A R : Type 0} → (A → Vat (Making R)) → Option A → Vat (Making R)
of_settled make None = over (refused value_too_large)
of_settled make (Some x) = make x

-- what is made where there is room for one more
abbrev pub with_room : {R : Type 0} → Bool → Vat (Making R) → Vat (Making R)
with_room room make = cond room make (over (refused turn_too_large))

-- ---- a send

-- what was sent on what, with the fences of the references in the arguments, what it comes after, and the promise of its result
pub record Sent : Type 0 where
  pub target : Val
  pub arguments : Vals
  pub fences : Carried
  pub after : List MsgId
  pub result : PromId

-- a message on a settled target with settled arguments: it gets the fence of the target; then the arguments' references leave with
-- their fences; then its result comes in, whose home is the vat to which the message goes first
abbrev pub send_placed : VatNo → MsgId → (VatNo → PromId) → Val → Vals → Vat (Making Sent)
send_placed here m result t us =
    and_then (sent_after m (reference_in t)) (λ after.
    and_then (leaving (references_in us)) (λ c.
    and_then (comes_in (result (goes_to here t))) (λ n.
    over (makes (record { target = t; arguments = us; fences = c; after = after; result = result (goes_to here t) })))))

-- the receiver is settled first, then the arguments, from the left; then the message is counted
abbrev pub sending : VatNo → MsgId → Bool → (VatNo → PromId) → Val → Vals → Vat (Making Sent)
sending here m room result v vs =
    and_then (settled v) (of_settled (λ t.
    and_then (all_settled vs) (of_settled (λ us. with_room room (send_placed here m result t us)))))

-- ---- a when

-- what a when waits for: an unresolved promise, or else its own result, which nothing waits for
abbrev pub condition : PromId → Val → PromId
condition result (promise p) = p
condition result v = result

-- the value's end is taken as the when is made; then the message is counted, and its result comes in
abbrev pub waiting : Bool → PromId → Val → Vat (Making PromId)
waiting room result v = and_then (ended v) (λ w. with_room room (and_then (comes_in result) (λ n. over (makes (condition result w)))))

-- ---- a promise and its resolver

-- the resolver is counted first; then the promise comes in, and the resolver is made
abbrev pub promising : Bool → PromId → ObjId → Vat (Making ObjId)
promising room p o = with_room room (and_then (comes_in p) (λ n. writes (object_cell o) (made (resolver p)) (over (makes o))))

-- ---- what is published

-- a value, the fences with which its references leave, and the reference that it settles to where its promise was entered
pub record Published : Type 0 where
  pub value : Val
  pub fences : Carried
  pub joined : Option Reference

-- the promise is entered only where it has come into the vat
abbrev pub entered_at : PromId → Val → Option Content → Vat (Option Reference)
entered_at p v None = over None
entered_at p v (Some x) = entered p v

abbrev pub entered_if_come : PromId → Val → Vat (Option Reference)
entered_if_come p v = reads (view_cell p) (entered_at p v)

-- references leave with the fences from before the promise is entered
abbrev pub publishing : PromId → Val → Vat Published
publishing p v =
    and_then (leaving (references v)) (λ c.
    and_then (entered_if_come p v) (λ t.
    over (record { value = v; fences = c; joined = t })))

abbrev pub already_used : Making Published
already_used = refused (problem (codes "already resolved"))

-- a resolver works once: while its promise is open
abbrev pub first_use : PromId → Val → Option Content → Vat (Making Published)
first_use p v (Some (viewed pending)) = and_then (publishing p v) (λ b. over (makes b))
first_use p v _ = over already_used

abbrev pub used : PromId → Val → Vat (Making Published)
used p v = reads (view_cell p) (first_use p v)

-- what is given is settled before it is tried whether the resolver was used
abbrev pub resolving : PromId → Val → Vat (Making Published)
resolving p v = and_then (settled v) (of_settled (used p))

-- where a text is wanted: a broken value throws its problem
abbrev pub no_text : Val → Name
no_text (broken words) = words
no_text v = codes "not a text"

abbrev pub smashed_by : PromId → Val → Option Name → Vat (Making Published)
smashed_by p w None = over (refused (problem (no_text w)))
smashed_by p w (Some words) = used p (broken words)

-- so is the end of what is given looked at as a text
abbrev pub smashing : PromId → Val → Vat (Making Published)
smashing p v = and_then (ended v) (λ w. smashed_by p w (text_in w))

-- the value with which a turn ends: settled already, or broken by a problem
abbrev pub told : Reply → Val
told (gives v) = v
told (throws words) = broken words

abbrev pub ending : PromId → Reply → Vat Published
ending p r = publishing p (told r)
