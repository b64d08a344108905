-- Where there is no room nothing is made, whatever its name would be.
use Rattle.std.proofs.Common.{◌≡◌, Bool, true, false, Option, Some, None, refl, ap, ◌∙◌, subst}
use Rattle.cells.specs.Doing.{over, reads, writes, Under, touching, holding, play, and_then}
use Rattle.ids.specs.declared.names.VatNo.{VatNo}
use Rattle.ids.specs.declared.names.MsgId.{MsgId}
use Rattle.ids.specs.declared.names.PromId.{PromId}
use Rattle.values.specs.Data.{Val, Vals}
use Rattle.heap.specs.State.{Cell, Content, same_cell}
use Rattle.heap.specs.Drafted.{Drafted}
use Rattle.sends.specs.Vats.{Vat, ended, settled, all_settled, comes_in}
use Rattle.sends.specs.Making.{Making, refused, makes, of_settled, with_room, Sent, send_placed, sending, condition, waiting}
use Rattle.sends.specs.Playing.{under, Did}
use Rattle.eval_rules.specs.At.{At}
use Rattle.eval_rules.specs.Doings.{next_message, next_promise, has_message_room, send_of, wait_of}

abbrev IsRefused : {R : Type 0} → Making R → Type 0
IsRefused (refused why) = Unit {0}
IsRefused (makes r) = ⊥

abbrev Refuses : {R : Type 0} → Vat (Making R) → Type 0
Refuses d = (u : Under Cell Content) → IsRefused (play same_cell d u).0

refuses_then : {A R : Type 0} (d : Vat A) (f : A → Vat (Making R)) → ((x : A) → Refuses (f x)) → Refuses (and_then d f)
refuses_then (over x) f h = h x
refuses_then (reads k next) f h = λ u. refuses_then (next (u.state k)) f h (touching same_cell k u)
refuses_then (writes k x next) f h = λ u. refuses_then next f h (holding same_cell k x u)

refuses_settled : {A R : Type 0} (make : A → Vat (Making R)) → ((x : A) → Refuses (make x)) → (o : Option A) → Refuses (of_settled make o)
refuses_settled make h None = λ u. tt
refuses_settled make h (Some x) = h x

sending_refuses : (here : VatNo) (m : MsgId) (result : VatNo → PromId) (v : Val) (vs : Vals) → Refuses (sending here m false result v vs)
sending_refuses here m result v vs =
    let place : Val → Vals → Vat (Making Sent) = λ t us. with_room false (send_placed here m result t us) in
    let rest : Val → Vat (Making Sent) = λ t. and_then (all_settled vs) (of_settled (place t)) in
    refuses_then (settled v) (of_settled rest) (refuses_settled rest (λ t. refuses_then (all_settled vs) (of_settled (place t)) (refuses_settled (place t) (λ us u. tt))))

waiting_refuses : (result : PromId) (v : Val) → Refuses (waiting false result v)
waiting_refuses result v =
    let make : Val → Vat (Making PromId) = λ w. with_room false (and_then (comes_in result) (λ n. over (makes (condition result w)))) in
    refuses_then (ended v) make (λ w u. tt)

-- so where something was made there was room
room_made : {R : Type 0} (room : Bool) (f : Bool → Vat (Making R)) (m : Making R) (r : R) (d e : Drafted) → Refuses (f false) → Did (f room) d m e → m ≡ makes r → room ≡ true
room_made true f m r d e h did is = refl
room_made false f m r d e h did is = absurd (subst (λ m. IsRefused m) (ap (λ p. p.0) did ∙ is) (h (under d)))

pub sent_in_room : (here : VatNo) (n : MsgId) (room : Bool) (result : VatNo → PromId) (v : Val) (vs : Vals) (m : Making Sent) (s : Sent) (d e : Drafted) → Did (sending here n room result v vs) d m e → m ≡ makes s → room ≡ true
sent_in_room here n room result v vs m s d e did is = room_made room (λ r. sending here n r result v vs) m s d e (sending_refuses here n result v vs) did is

pub waits_in_room : (room : Bool) (result : PromId) (v : Val) (m : Making PromId) (c : PromId) (d e : Drafted) → Did (waiting room result v) d m e → m ≡ makes c → room ≡ true
waits_in_room room result v m c d e did is = room_made room (λ r. waiting r result v) m c d e (waiting_refuses result v) did is

-- a message that is not made has no name
named : (here : VatNo) (m n : MsgId) (room : Bool) (result : VatNo → PromId) (v : Val) (vs : Vals) → (room ≡ true → m ≡ n) → sending here m room result v vs ≡ sending here n room result v vs
named here m n true result v vs h = ap (λ m. sending here m true result v vs) (h refl)
named here m n false result v vs h = refl

-- a send, from what its message is drawn from
pub send_drawn : (a : At) (here : VatNo) (m : MsgId) (room : Bool) (result : VatNo → PromId) (v : Val) (vs : Vals) → here ≡ a.vat → (room ≡ true → m ≡ next_message a) → room ≡ has_message_room a → ((home : VatNo) → result home ≡ next_promise a home)
    → sending here m room result v vs ≡ send_of v vs a
send_drawn a here m room result v vs h n r p =
    named here m (next_message a) room result v vs n ∙ (λ i. sending (h i) (next_message a) (r i) (λ home. p home i) v vs)

-- and a when
pub wait_drawn : (a : At) (room : Bool) (result : PromId) (v : Val) → room ≡ has_message_room a → result ≡ next_promise a a.vat → waiting room result v ≡ wait_of v a
wait_drawn a room result v r p = λ i. waiting (r i) (p i) v
