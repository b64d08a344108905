-- A turn can happen exactly where its message is ready.
use Rattle.std.proofs.Common.{◌≡◌, ◌↔◌, ℕ, ◌+◌, Bool, true, false, cond, List, [], ◌∷◌, Option, Some, None, refl, ap, ◌∙◌}
use Rattle.ids.specs.declared.names.EventName.{EventName}
use Rattle.ids.specs.declared.names.VatNo.{VatNo}
use Rattle.ids.specs.declared.names.MsgId.{MsgId}
use Rattle.ids.specs.declared.cells.CellKey.TheVariants as key
use Rattle.post.specs.Messages.{Place, flying, at_vat, done, waits_at, Message}
use Rattle.world_cells.specs.Events.{Act, turn, Event}
use Rattle.world_cells.specs.World.{Content, message, World, message_in, message_of, vat_state}
use Rattle.turn_deliveries.specs.Touched.{delivery_touched, delivery_written}
use Rattle.turn_deliveries.proofs.Turns.{delivery_somehow}
use Rattle.event.specs.Events.{Foot, Turn, Turns, AreNew, letters_from, turn_foot, Does, births, asks, arrives, forwards, learns, turns}
use Rattle.event.specs.Laws.{CanHappen, HasNoMessage}
use Rattle.event.specs.Ready.{misplaced, lost_message, first_undone, leads_there, early_by, unready_message, place_of, IsReady}
use Rattle.event.specs.Walks.{awaited, found_by}
use Rattle.event.specs.declared.ready.Unready.TheVariants as why
use Rattle.event.proofs.Finite.{delivery_left}

-- ---- why a message may not be delivered

-- it leads there, and nothing is undone, just where there is no reason against it
none_undone : (o : Option MsgId) → early_by o ≡ None → o ≡ None
none_undone None h = refl
none_undone (Some m) h = absurd (cc)

allowed : (b : Bool) (o : Option MsgId) → cond b (early_by o) (Some why.NotReady) ≡ None → (b ≡ true) × (o ≡ None)
allowed true o h = (refl, none_undone o h)
allowed false o h = absurd (cc)

at_place : (p : Place) (v : VatNo) → waits_at p ≡ Some v → p ≡ at_vat v
at_place (at_vat u) v h = let e : u ≡ v = cc in ap at_vat e
at_place (flying u) v h = absurd (cc)
at_place (done e) v h = absurd (cc)

message_there : (o : Option Content) (g : Message) → message_in o ≡ Some g → o ≡ Some (message g)
message_there (Some (message h)) g e = let same : h ≡ g = cc in ap (λ x. Some (message x)) same
message_there _ g e = absurd (cc)

-- ---- a ready message has a turn

all_new : (e : EventName) (w : World) (i : ℕ) (ls : List (MsgId × Message)) → HasNoMessage e w → AreNew w (letters_from e i ls)
all_new e w i [] h = tt
all_new e w i (l ∷ ls) h = (h i, all_new e w (i + 1) ls h)

turn_of : (e : EventName) (w : World) (m : MsgId) (n : ℕ) (g : Message) (v : VatNo) → HasNoMessage e w → message_of w m ≡ Some g → g.place ≡ at_vat v → leads_there w v g ≡ true → first_undone w (awaited w g) ≡ None
    → CanHappen (record { name = e; act = turn v m n }) w
turn_of e w m n g v new waits there leads order =
    let r = delivery_somehow g (found_by w g.delivery) e v (vat_state w v) n in
    let l = delivery_left r.1 in
    let t : Turn = record { message = g; vat = v; outcome = r.0; touched = delivery_touched r.1; written = delivery_written r.1 } in
    let happens : Turns e w m n t = record { waiting = message_there (w (key.Msg m)) g waits; there = there; leads = leads; in_order = order; delivers = (r.1, refl, refl); fresh = all_new e w 0 r.0.out.letters new } in
    (turn_foot e w m t l.cells l.left, turns {t = t} happens l.leaves)

ready_turn : (e : EventName) (w : World) (m : MsgId) (n : ℕ) → HasNoMessage e w → IsReady w m → (v : VatNo) × CanHappen (record { name = e; act = turn v m n }) w
ready_turn e w m n new h = found (message_of w m) refl h.at_a_vat h.in_order
  where
    placed : (g : Message) (p : Option VatNo) → message_of w m ≡ Some g → waits_at g.place ≡ p → misplaced p ≡ None → unready_message w (Some g) p ≡ None → (v : VatNo) × CanHappen (record { name = e; act = turn v m n }) w
    placed g None waits there k order = absurd (cc)
    placed g (Some v) waits there k order =
        let may = allowed (leads_there w v g) (first_undone w (awaited w g)) order in
        (v, turn_of e w m n g v new waits (at_place g.place v there) may.0 may.1)

    found : (o : Option Message) → message_of w m ≡ o → lost_message o ≡ None → unready_message w o (place_of o) ≡ None → (v : VatNo) × CanHappen (record { name = e; act = turn v m n }) w
    found None is k order = absurd (cc)
    found (Some g) is k order = placed g (waits_at g.place) is refl k order

-- ---- a message that has a turn is ready

turn_ready : (e : EventName) (w : World) (m : MsgId) (n : ℕ) (t : Turn) → Turns e w m n t → IsReady w m
turn_ready e w m n t h = record {
  at_a_vat = ap (λ (o : Option Content). lost_message (message_in o)) h.waiting ∙ ap (λ p. misplaced (waits_at p)) h.there;
  in_order = ap (λ (o : Option Content). unready_message w (message_in o) (place_of (message_in o))) h.waiting
      ∙ ap (λ p. unready_message w (Some t.message) (waits_at p)) h.there
      ∙ ap (λ b. cond b (early_by (first_undone w (awaited w t.message))) (Some why.NotReady)) h.leads
      ∙ ap early_by h.in_order;
}

-- what an event needs of a message
abbrev ReadyFor : World → Act → Type 0
ReadyFor w (turn v m n) = IsReady w m
ReadyFor w _ = Unit {0}

happens_ready : (e : Event) (w : World) (f : Foot) → Does e w f → ReadyFor w e.act
happens_ready e w f (births vats h n) = tt
happens_ready e w f (asks h) = tt
happens_ready e w f (arrives h g) = tt
happens_ready e w f (forwards h at is to) = tt
happens_ready e w f (learns h is l) = tt
happens_ready e w f (turns {e = n} {m = m} {budget = b} {t = t} h g) = turn_ready n w m b t h

pub ready_exactly : (e : EventName) (w : World) (m : MsgId) (n : ℕ) → HasNoMessage e w → ((v : VatNo) × CanHappen (record { name = e; act = turn v m n }) w) ↔ IsReady w m
ready_exactly e w m n new = (λ h. happens_ready (record { name = e; act = turn h.0 m n }) w h.1.0 h.1.1, λ h. ready_turn e w m n new h)
