-- What events that are no turns do to messages, resolvers, views and the board.
use Rattle.std.proofs.Common.{◌≡◌, Bool, true, false, cond, List, [], map, Option, Some, None, option_map, is_some, inl, inr, ◌⊎◌, ⊎_elim, refl, sym, ap, ◌∙◌, subst, append-nil}
use Rattle.std.specs.List.{list_any}
use Rattle.history.specs.Subject.{written}
use Rattle.ids.specs.declared.names.EventName.{EventName}
use Rattle.ids.specs.declared.names.VatNo.{VatNo}
use Rattle.ids.specs.declared.names.MsgId.{MsgId}
use Rattle.ids.specs.declared.names.PromId.{PromId}
use Rattle.ids.specs.declared.names.ObjId.{ObjId}
use Rattle.ids.specs.declared.cells.CellKey.TheVariants as key
use Rattle.cells.proofs.Doings.{cells_only_grow}
use Rattle.eorder.specs.Places.{same_message}
use Rattle.eorder.proofs.Places.{message_equal}
use Rattle.heap.specs.State as heap
use Rattle.heap.specs.State.{Cell, same_cell}
use Rattle.post.specs.Messages.{Message, Published, Place, flying, at_vat, done, is_done, flies_to, waits_at, arrived}
use Rattle.sends.specs.Vats.{Nothing, references, entered, coming_in, resolution_in}
use Rattle.world_cells.specs.World.{message, World, cell_content, message_in, message_of, published_in, vat_state}
use Rattle.event.specs.Events.{events, first_message, in_world, Leaves, learning, untouched, learnt}
use Rattle.event_ordering.proofs.Written.{passed, all_pass, not_message, not_board}
use Rattle.event_publishing.proofs.Calm.{CalmIn, Calmly, calmly_then, entered_calm, coming_in_calm}
use Rattle.event_publishing.proofs.Left.{vat_resolver, resolver_left, knows_on}
use Rattle.event_publishing.proofs.Worlds.{Had, Happens}

-- no promise
abbrev pub Never : PromId → Type 0
Never p = ⊥

-- objects, views and the board are as they were
pub record OnlyMessages (w u : World) : Type 0 where
  pub objects : (i : ObjId) → u (key.Object i) ≡ w (key.Object i)
  pub boards : (p : PromId) → u (key.Board p) ≡ w (key.Board p)
  pub views : (v : VatNo) (p : PromId) → u (key.View v p) ≡ w (key.View v p)

-- the message that was written, or one that was there
written_message : (w : World) (m n : MsgId) (g h : Message) → message_in (cond (same_message m n) (Some (message g)) (w (key.Msg n))) ≡ Some h → ((n ≡ m) × (h ≡ g)) ⊎ (message_of w n ≡ Some h)
written_message w m n g h is = go (same_message m n) refl is
  where
    one : Some g ≡ Some h → h ≡ g
    one e = cc

    go : (q : Bool) → same_message m n ≡ q → message_in (cond q (Some (message g)) (w (key.Msg n))) ≡ Some h → ((n ≡ m) × (h ≡ g)) ⊎ (message_of w n ≡ Some h)
    go true e i = inl (sym (message_equal m n e), one i)
    go false e i = inr i

was_there : {w : World} {n : MsgId} {h : Message} → message_of w n ≡ Some h → Had w n h
was_there {h = h} is = record { before = h; there = is; result = refl; undone = λ d. d }

-- nothing but messages changes
only_messages : (e : EventName) (w u : World) (Sent : MsgId → Message → Type 0) → OnlyMessages w u → ((n : MsgId) (h : Message) → message_of u n ≡ Some h → Sent n h ⊎ Had w n h) → ((n : MsgId) (h : Message) → Sent n h → (n.event ≡ e) × (h.result.event ≡ e))
    → ((n k : MsgId) (h g : Message) → Sent n h → Sent k g → h.result ≡ g.result → n ≡ k) → Happens e w u Sent Never Never
only_messages e w u Sent only messages sent apart = record {
  messages = messages;
  sent = λ n h s. let x = sent n h s in (x.0, x.1, λ y. y);
  apart = apart;
  resolvers = λ i p r. inl (sym (only.objects i) ∙ r);
  paired = λ p x. absurd x;
  views = λ v p k. ap (λ o. is_some (resolution_in (cell_content o))) (only.views v p) ∙ k;
  board = λ p n is. ap published_in (only.boards p) ∙ is;
  published = λ p x. absurd x;
}

-- a first message is written
abbrev pub IsFirst : EventName → Message → MsgId → Message → Type 0
IsFirst e g n h = (n ≡ first_message e) × (h ≡ g)

pub first_happens : (e : EventName) (w u : World) (g : Message) → g.result.event ≡ e → OnlyMessages w u → ((n : MsgId) → u (key.Msg n) ≡ cond (same_message (first_message e) n) (Some (message g)) (w (key.Msg n))) → Happens e w u (IsFirst e g) Never Never
first_happens e w u g its only one = only_messages e w u (IsFirst e g) only
    (λ n h is. ⊎_elim inl (λ x. inr (was_there x)) (written_message w (first_message e) n g h (sym (ap message_in (one n)) ∙ is)))
    (λ n h s. (ap (λ (m : MsgId). m.event) s.0, ap (λ (m : Message). m.result.event) s.1 ∙ its))
    (λ n k h f s t same. s.0 ∙ sym t.0)

-- a message is elsewhere
abbrev pub NoMessage : MsgId → Message → Type 0
NoMessage n h = ⊥

pub moved_happens : (e : EventName) (w u : World) (m : MsgId) (g h : Message) → message_of w m ≡ Some g → h.result ≡ g.result → is_done g.place ≡ false → OnlyMessages w u
    → ((n : MsgId) → u (key.Msg n) ≡ cond (same_message m n) (Some (message h)) (w (key.Msg n))) → Happens e w u NoMessage Never Never
moved_happens e w u m g h is same undone only one = only_messages e w u NoMessage only
    (λ n f also. inr (⊎_elim
    (λ x. record { before = g; there = ap (λ k. message_of w k) x.0 ∙ is; result = ap (λ (y : Message). y.result) x.1 ∙ same; undone = λ d. undone })
    (λ x. was_there x) (written_message w m n h f (sym (ap message_in (one n)) ∙ also))))
    (λ n f s. absurd s)
    (λ n k f g s t same. absurd s)

pub flies_undone : (p : Place) (v : VatNo) → flies_to p ≡ Some v → is_done p ≡ false
flies_undone (flying x) v i = refl
flies_undone (at_vat x) v i = refl
flies_undone (done x) v i = absurd (cc)

pub waits_undone : (p : Place) (v : VatNo) → waits_at p ≡ Some v → is_done p ≡ false
waits_undone (flying x) v i = refl
waits_undone (at_vat x) v i = refl
waits_undone (done x) v i = absurd (cc)

-- a message that arrives flew, and has the same result
pub arrived_same : (g h : Message) → arrived g ≡ Some h → (h.result ≡ g.result) × (is_done g.place ≡ false)
arrived_same g h e = go (flies_to g.place) refl e
  where
    one : (x : Message) → Some x ≡ Some h → h.result ≡ x.result
    one x e = ap (λ (y : Message). y.result) (same e)
      where
        same : Some x ≡ Some h → h ≡ x
        same e = cc

    go : (o : Option VatNo) → flies_to g.place ≡ o → option_map (λ v. record g { place = at_vat v }) o ≡ Some h → (h.result ≡ g.result) × (is_done g.place ≡ false)
    go None i e = absurd (cc)
    go (Some v) i e = (one (record g { place = at_vat v }) e, flies_undone g.place v i)

-- ---- what a vat learns

learning_calm : (p : PromId) (b : Published) → Calmly (learning p b)
learning_calm p b = calmly_then (entered p b.value) (λ t. coming_in b.fences (references b.value)) (entered_calm p b.value) (λ t. coming_in_calm b.fences (references b.value))

pub learns_happens : (e : EventName) (w : World) (v : VatNo) (p : PromId) (b : Published) (cells : List Cell) (left : List (Cell × heap.Content)) → Leaves (learnt w v p b).touched (learnt w v p b).written (learnt w v p b).state cells left
    → Happens e w (written events (in_world v left) w) NoMessage Never Never
learns_happens e w v p b cells left l =
    let t : heap.State = (learnt w v p b).state in
    let c : CalmIn (vat_state w v) t = learning_calm p b (untouched (vat_state w v)) in
    let stays : (d : Cell) → list_any (same_cell d) (map (λ q. q.0) left) ≡ false → t d ≡ vat_state w v d =
    λ d n. (cells_only_grow Cell heap.Content Nothing same_cell (learning p b) (untouched (vat_state w v))).stays d (sym (l.written d) ∙ n) in
    subst (λ ps. Happens e w (written events ps w) NoMessage Never Never) (append-nil (in_world v left)) (record {
      messages = λ n h is. inr (was_there (sym (ap message_in (passed (in_world v left) [] w (key.Msg n) (all_pass v left (key.Msg n) (not_message v n)))) ∙ is));
      sent = λ n h s. absurd s;
      apart = λ n k h g s q same. absurd s;
      resolvers = λ i q r. inl (⊎_elim (λ h. (vat_resolver w v i q (c.resolvers i q h)).0) (λ h. h) (resolver_left w v t [] left l.contents (λ i. refl) i q r));
      paired = λ q x. absurd x;
      views = knows_on w v t [] left l.contents stays (λ x q. refl) c.known;
      board = λ q n is. ap published_in (passed (in_world v left) [] w (key.Board q) (all_pass v left (key.Board q) (not_board v q))) ∙ is;
      published = λ q x. absurd x;
    })
