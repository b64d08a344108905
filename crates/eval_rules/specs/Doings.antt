-- What is done to the vat's cells between two trees, from the place where an evaluation stands.
use Rattle.std.specs.Prelude.{◌+◌, ltb, Bool, true, false, nat_eq, List, [], ◌∷◌, ◌++◌, length, codes}
use Rattle.ids.specs.declared.names.VatNo.{VatNo}
use Rattle.ids.specs.declared.names.MsgId.{MsgId}
use Rattle.ids.specs.declared.names.PromId.{PromId}
use Rattle.ids.specs.declared.names.ObjId.{ObjId}
use Rattle.cells.specs.Doing.{Under, over, and_then, play}
use Rattle.kernele.specs.Tree.{Name}
use Rattle.values.specs.Data.{Val, null, text, list, object, promise, Vals, no_vals, and_val, Reply}
use Rattle.values.specs.Replies.{data_reply}
use Rattle.values.specs.Promises.{same_reply}
use Rattle.values.specs.Wanted.{wants_datum}
use Rattle.heap.specs.State.{Cell, Content, same_cell}
use Rattle.refs.specs.Kinds.{kind_in}
use Rattle.refs.specs.declared.kinds.Kind.{Kind}
use Rattle.refs.specs.declared.kinds.Kind.TheVariants as kind
use Rattle.post.specs.Delivery.{sent, waiting, When}
use Rattle.post.specs.Messages.{Place, flying, at_vat, Message}
use Rattle.sends.specs.Vats.{Vat, ended, settled, goes_to}
use Rattle.sends.specs.Making.{Refusal, problem, turn_too_large, Making, refused, makes, of_settled, Sent, sending, waiting as waits, promising, Published as Resolved}
use Rattle.eval_rules.specs.Outbox.{Note, sent_note, waits_note, resolved_note, and_publication, Outbox}
use Rattle.eval_rules.specs.At.{At}
use Rattle.eval_rules.specs.Outcomes.{too_large, thrown, abandoned, End, value, halt, Gather, values, halted, reply_end}
use Rattle.eval_rules.specs.declared.working.TheConstants.{MAX_OBJECTS, MAX_MESSAGES}

-- the vat's cells at a place
abbrev pub under : At → Under Cell Content
under a = record { state = a.state; touched = a.touched; written = a.written }

-- the same place with these cells
abbrev pub with_under : Under Cell Content → At → At
with_under u a = record a { state = u.state; touched = u.touched; written = u.written }

-- what something that is done to the cells gives, and the place behind it
abbrev pub given_by : {R : Type 0} → Vat R → At → R
given_by d a = (play same_cell d (under a)).0

abbrev pub behind : {R : Type 0} → Vat R → At → At
behind d a = with_under (play same_cell d (under a)).1 a

-- ---- where a datum is wanted

-- a value's end in the vat is taken
abbrev pub datum_of : End → At → End
datum_of (value v) a = value (given_by (ended v) a)
datum_of (halt h) a = halt h

abbrev pub datum_read : End → At → At
datum_read (value v) a = behind (ended v) a
datum_read (halt h) a = a

-- a verb of data: where it wants a datum, its argument's end is taken
abbrev pub data_with : Bool → Val → Name → Val → Vat Reply
data_with true v verb w = and_then (ended w) (λ u. over (data_reply v verb (and_val u no_vals)))
data_with false v verb w = over (data_reply v verb (and_val w no_vals))

abbrev pub data_of : Val → Name → Vals → Vat Reply
data_of v verb (and_val w no_vals) = data_with (wants_datum v verb) v verb w
data_of v verb vs = over (data_reply v verb vs)

-- ---- what a turn makes next

-- messages are numbered from 0 in order of making, and so are promises
abbrev pub next_message : At → MsgId
next_message a = record { event = a.event; index = length a.out.letters }

abbrev pub next_promise : At → VatNo → PromId
next_promise a home = record { event = a.event; index = a.out.promises; home = home }

-- a turn has room for one more message
abbrev pub has_message_room : At → Bool
has_message_room a = ltb (length a.out.letters) MAX_MESSAGES

-- why nothing was made, as an end
abbrev pub refusal_end : Refusal → End
refusal_end (problem words) = halt (thrown words)
refusal_end turn_too_large = halt (abandoned too_large)

-- a message to the vat itself is there at once, and one to another vat is on its way
abbrev pub first_place : Bool → VatNo → Place
first_place true to = at_vat to
first_place false to = flying to

abbrev pub same_vat : VatNo → VatNo → Bool
same_vat v w = nat_eq v.0.0 w.0.0

-- ---- a send

abbrev pub send_of : Val → Vals → At → Vat (Making Sent)
send_of v vs a = sending a.vat (next_message a) (has_message_room a) (next_promise a) v vs

-- the message goes out
abbrev pub posted : MsgId → Message → Outbox → Outbox
posted m g out = record out { letters = out.letters ++ (m, g) ∷ []; promises = out.promises + 1 }

abbrev pub noted : List Note → Outbox → Outbox
noted ns out = record out { notes = out.notes ++ ns }

abbrev pub call_message : VatNo → Name → Sent → Message
call_message here verb s = record {
  delivery = sent (record { target = s.target; verb = verb; arguments = s.arguments; fences = s.fences });
  result = s.result;
  after = s.after;
  place = first_place (same_vat here (goes_to here s.target)) (goes_to here s.target);
}

abbrev pub send_end : Making Sent → End
send_end (refused why) = refusal_end why
send_end (makes s) = value (promise s.result)

abbrev pub send_out : Name → Making Sent → At → At
send_out verb (refused why) a = a
send_out verb (makes s) a = record a { out = noted (sent_note (next_message a) ∷ []) (posted (next_message a) (call_message a.vat verb s) a.out) }

-- a send with its arguments, or one of which an argument was halted
abbrev pub sent_end : Val → Gather → At → End
sent_end v (values vs) a = send_end (given_by (send_of v vs a) a)
sent_end v (halted h) a = halt h

abbrev pub sent_at : Name → Val → Gather → At → At
sent_at verb v (values vs) a = send_out verb (given_by (send_of v vs a) a) (behind (send_of v vs a) a)
sent_at verb v (halted h) a = a

-- ---- a when, once its names are captured

abbrev pub wait_of : Val → At → Vat (Making PromId)
wait_of v a = waits (has_message_room a) (next_promise a a.vat) v

abbrev pub when_message : VatNo → PromId → When → Message
when_message here result w = record { delivery = waiting w; result = result; after = []; place = at_vat here }

abbrev pub wait_end : Making PromId → At → End
wait_end (refused why) a = refusal_end why
wait_end (makes c) a = value (promise (next_promise a a.vat))

abbrev pub wait_out : When → Making PromId → At → At
wait_out w (refused why) a = a
wait_out w (makes c) a = record a { out = noted (waits_note c (next_message a) ∷ []) (posted (next_message a) (when_message a.vat (next_promise a a.vat) w) a.out) }

-- ---- a promise with its resolver

-- the object that a turn makes next: they are numbered from 0 in order of making
abbrev pub next_object : At → ObjId
next_object a = record { event = a.event; index = a.objects; vat = a.vat }

-- a turn has room for one more object
abbrev pub has_object_room : At → Bool
has_object_room a = ltb a.objects MAX_OBJECTS

abbrev pub promise_pair : At → Vat (Making ObjId)
promise_pair a = promising (has_object_room a) (next_promise a a.vat) (next_object a)

abbrev pub pair_end : Making ObjId → At → End
pair_end (refused why) a = refusal_end why
pair_end (makes o) a = value (list (and_val (promise (next_promise a a.vat)) (and_val (object o) no_vals)))

abbrev pub pair_out : Making ObjId → At → At
pair_out (refused why) a = a
pair_out (makes o) a = record a { objects = a.objects + 1; out = record a.out { promises = a.out.promises + 1 } }

-- ---- the use of a resolver

-- what was published
abbrev pub published_out : PromId → Resolved → Outbox → Outbox
published_out p b out = noted (resolved_note p ∷ []) (record out { publications = and_publication p (record { value = b.value; fences = b.fences }) out.publications })

abbrev pub resolver_end : Making Resolved → End
resolver_end (refused why) = refusal_end why
resolver_end (makes b) = value null

abbrev pub resolver_out : PromId → Making Resolved → At → At
resolver_out p (refused why) a = a
resolver_out p (makes b) a = record a { out = published_out p b a.out }

-- ---- what is the same, and what a reference is

-- whether two values are the same: their settled forms are taken first, the left one's before the right one's
abbrev pub both_settled : Val → Val → Vat (Making (Val × Val))
both_settled v w = and_then (settled v) (of_settled (λ x. and_then (settled w) (of_settled (λ y. over (makes (x, y))))))

abbrev pub same_forms : Making (Val × Val) → End
same_forms (refused why) = refusal_end why
same_forms (makes p) = reply_end (same_reply p.0 p.1)

-- once the right one is there
abbrev pub same_end : Val → End → At → End
same_end v (value w) a = same_forms (given_by (both_settled v w) a)
same_end v (halt h) a = halt h

abbrev pub same_read : Val → End → At → At
same_read v (value w) a = behind (both_settled v w) a
same_read v (halt h) a = a

-- the word for what an end is in the vat
abbrev pub state_word : Kind → Name
state_word kind.Near = codes "near"
state_word kind.Far = codes "far"
state_word kind.LocalPromise = codes "promise"
state_word kind.RemotePromise = codes "promise"
state_word kind.Broken = codes "broken"

abbrev pub state_end : VatNo → End → End
state_end here (value v) = value (text (state_word (kind_in here v)))
state_end here (halt h) = halt h
