-- What a world has, as the reading of a vat; and events that change no fence.
use Rattle.std.proofs.Common.{◌≡◌, Bool, true, false, cond, List, [], ◌++◌, map, Option, Some, None, refl, sym, ap, ◌∙◌, subst}
use Rattle.std.specs.List.{list_any, AllByRecursion}
use Rattle.history.specs.Subject.{written}
use Rattle.ids.specs.declared.names.EventName.{EventName}
use Rattle.ids.specs.declared.names.VatNo.{VatNo}
use Rattle.ids.specs.declared.names.MsgId.{MsgId}
use Rattle.ids.specs.declared.names.PromId.{PromId}
use Rattle.ids.specs.declared.reference.Reference.{Reference}
use Rattle.ids.specs.declared.cells.CellKey.TheVariants as key
use Rattle.eorder.specs.Carried.{fence_with}
use Rattle.eorder.specs.Fences.{member, names_in}
use Rattle.eorder.specs.Places.{argument, published as in_publication, Place, fence_at, carried, sent_after, same_vat, same_message}
use Rattle.eorder.specs.Worlds.{Kept}
use Rattle.eorder.proofs.Places.{vat_equal, message_equal}
use Rattle.heap.specs.State as heap
use Rattle.heap.specs.State.{Cell, State, fence_cell, same_cell}
use Rattle.post.specs.Delivery.{Delivery}
use Rattle.post.specs.Messages.{Message, Place as MessagePlace, done_in, is_done}
use Rattle.sends.specs.Vats.{names_of, names_for}
use Rattle.world_cells.specs.World.{Content, vat, bound, held, made, viewed, fenced, message, published, World, cell_content, message_in, message_of, published_in, vat_state}
use Rattle.eval_rules.specs.Outbox.{empty_outbox}
use Rattle.event.specs.Events.{events, in_world}
use Rattle.event_ordering.specs.Deeds.{fence_in, argument_fences, message_after, fences_of_world, happening}
use Rattle.event_ordering.specs.Reading.{fences_in, fences_of_delivery, after_of, publication_fences, turn_fences}
use Rattle.event_ordering.proofs.Readings.{or_false}
use Rattle.event_ordering.proofs.Written.{Writes, passed, all_pass, not_fence, fences_left, asked_of}

vat_fence : (o : Option Content) → names_of (cell_content o) ≡ fence_in o
vat_fence None = refl
vat_fence (Some (vat x)) = refl
vat_fence (Some (bound b)) = refl
vat_fence (Some (held v)) = refl
vat_fence (Some (made o)) = refl
vat_fence (Some (viewed k)) = refl
vat_fence (Some (fenced f)) = refl
vat_fence (Some (message g)) = refl
vat_fence (Some (published p)) = refl

-- at a vat's own places its state counts
at_vat_case : (v u : VatNo) (q : Bool) (x : VatNo → Bool) (y : Bool) → same_vat v u ≡ q → x v ≡ y → x u ≡ cond q y (x u)
at_vat_case v u true x y h g = ap x (sym (vat_equal v u h)) ∙ g
at_vat_case v u false x y h g = refl

-- a vat that has done nothing leaves the world's fences
nothing_done : (w : World) (v : VatNo) (before : PromId → Bool) (e : EventName) (k : Place) (x : MsgId) → turn_fences (fences_of_world w) v before e (vat_state w v) empty_outbox k x ≡ fences_of_world w k x
nothing_done w v before e (fence_at u r) x = sym (at_vat_case v u (same_vat v u) (λ u. fences_of_world w (fence_at u r) x) (fences_in (vat_state w v) r x) refl (ap (λ f. member f x) (sym (vat_fence (w (key.Fence v r))))))
nothing_done w v before e (carried c r) x = or_false (fences_of_world w (carried c r) x)
nothing_done w v before e (sent_after n) x = or_false (fences_of_world w (sent_after n) x)

pub start_is_world : (w : World) (v : VatNo) (before : PromId → Bool) (e : EventName) → turn_fences (fences_of_world w) v before e (vat_state w v) empty_outbox ≡ fences_of_world w
start_is_world w v before e = λ i k x. nothing_done w v before e k x i

-- ---- events that change no fence

-- two questions about messages, by which worlds have their fences
abbrev pub travels : Reference → MsgId → Delivery → List MsgId → Bool
travels r x d names = member (names_for (fences_of_delivery d) r) x

abbrev pub comes_after : MsgId → Delivery → List MsgId → Bool
comes_after x d names = member (after_of d names) x

pub travels_asked : (r : Reference) (x : MsgId) (o : Option Message) → member (names_in (fence_with (argument_fences o) r)) x ≡ asked_of (travels r x) o
travels_asked r x None = refl
travels_asked r x (Some g) = refl

pub after_asked : (x : MsgId) (o : Option Message) → member (message_after o) x ≡ asked_of (comes_after x) o
after_asked x None = refl
after_asked x (Some g) = refl

-- messages that are alike but for where they are, and whether they are done
pub record SameMessage (o p : Option Message) : Type 0 where
  pub fences : argument_fences o ≡ argument_fences p
  pub after : message_after o ≡ message_after p
  pub done : done_in o ≡ done_in p

-- a world with such messages has the same fences
pub quiet_world : (v : VatNo) (w u : World) → ((x : VatNo) (r : Reference) → u (key.Fence x r) ≡ w (key.Fence x r)) → ((q : PromId) → u (key.Board q) ≡ w (key.Board q)) → ((n : MsgId) → SameMessage (message_of u n) (message_of w n)) → Kept happening v w u []
quiet_world v w u f b h = record { cells = cells; done = λ n. (h n).done; sends = tt }
  where
    cells : (k : Place) (x : MsgId) → fences_of_world u k x ≡ fences_of_world w k x
    cells (fence_at y r) x = ap (λ o. member (fence_in o) x) (f y r)
    cells (carried (argument n) r) x = ap (λ c. member (names_in (fence_with c r)) x) (h n).fences
    cells (carried (in_publication q) r) x = ap (λ o. member (names_in (fence_with (publication_fences (published_in o)) r)) x) (b q)
    cells (sent_after n) x = ap (λ c. member c x) (h n).after

-- so it is of one message that was written
pub one_message : (w : World) (m n : MsgId) (h : Message) → SameMessage (Some h) (message_of w m) → (q : Bool) → same_message m n ≡ q → SameMessage (message_in (cond q (Some (message h)) (w (key.Msg n)))) (message_of w n)
one_message w m n h s true i = subst (λ k. SameMessage (Some h) (message_of w k)) (message_equal m n i) s
one_message w m n h s false i = record { fences = refl; after = refl; done = refl }

pub new_message : (w : World) (m : MsgId) (h : Message) → w (key.Msg m) ≡ None → fences_of_delivery h.delivery ≡ [] → after_of h.delivery h.after ≡ [] → is_done h.place ≡ false → SameMessage (Some h) (message_of w m)
new_message w m h new f a d = record {
  fences = f ∙ ap (λ o. argument_fences (message_in o)) (sym new);
  after = a ∙ ap (λ o. message_after (message_in o)) (sym new);
  done = d ∙ ap (λ o. done_in (message_in o)) (sym new);
}

pub moved_message : (w : World) (m : MsgId) (g : Message) (p : MessagePlace) → message_of w m ≡ Some g → is_done p ≡ is_done g.place → SameMessage (Some (record g { place = p })) (message_of w m)
moved_message w m g p is d = record { fences = ap argument_fences (sym is); after = ap message_after (sym is); done = d ∙ ap done_in (sym is) }

-- ---- what is left in a vat's cells

module _ (w : World) (v : VatNo) (s : State) (left : List (Cell × heap.Content)) (rest : Writes) (contents : AllByRecursion (λ p. s p.0 ≡ Some p.1) left)
    (stays : (c : Cell) → list_any (same_cell c) (map (λ p. p.0) left) ≡ false → s c ≡ vat_state w v c) (passes : (u : VatNo) (r : Reference) → written events rest w (key.Fence u r) ≡ w (key.Fence u r)) where
  own_fence : (r : Reference) → fence_in (written events (in_world v left ++ rest) w (key.Fence v r)) ≡ names_of (s (fence_cell r))
  own_fence r = fences_left v s r rest w left contents (λ n. ap names_of (stays (fence_cell r) n) ∙ vat_fence (w (key.Fence v r)) ∙ ap fence_in (sym (passes v r)))

  fence_case : (u : VatNo) (r : Reference) (x : MsgId) (q : Bool) → same_vat v u ≡ q → member (fence_in (written events (in_world v left ++ rest) w (key.Fence u r))) x ≡ cond q (fences_in s r x) (fences_of_world w (fence_at u r) x)
  fence_case u r x true i = ap (λ y. member (fence_in (written events (in_world v left ++ rest) w (key.Fence y r))) x) (sym (vat_equal v u i)) ∙ ap (λ f. member f x) (own_fence r)
  fence_case u r x false i = ap (λ o. member (fence_in o) x) (passed (in_world v left) rest w (key.Fence u r) (all_pass v left (key.Fence u r) (not_fence v u r i)) ∙ passes u r)

  pub left_fence : (u : VatNo) (r : Reference) (x : MsgId) → member (fence_in (written events (in_world v left ++ rest) w (key.Fence u r))) x ≡ cond (same_vat v u) (fences_in s r x) (fences_of_world w (fence_at u r) x)
  left_fence u r x = fence_case u r x (same_vat v u) refl
