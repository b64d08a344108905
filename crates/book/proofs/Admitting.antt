-- Why an arrival, a forwarding or what a vat learns is refused, and when it is not.
use Rattle.std.proofs.Common.{◌≡◌, Bool, true, false, not, ◌&&◌, List, [], Option, Some, None, is_some, map, refl, sym, ap, ap₂, ◌∙◌, subst}
use Rattle.std.proofs.lemmas.Bool.{false≢true}
use Rattle.std.specs.Option.{option_map}
use Rattle.ids.specs.declared.names.MsgId.{MsgId}
use Rattle.ids.specs.declared.names.VatNo.{VatNo}
use Rattle.ids.specs.declared.names.PromId.{PromId}
use Rattle.ids.specs.declared.names.EventName.{EventName}
use Rattle.ids.specs.declared.cells.CellKey.TheVariants as key
use Rattle.heap.specs.State as heap
use Rattle.heap.specs.State.{pending, resolved}
use Rattle.post.specs.Delivery.{Delivery, Call, opening, asked, sent, waiting}
use Rattle.post.specs.Messages.{Message, Place, Published, at_vat, flying, flies_to, waits_at, arrived, forwarded}
use Rattle.world_cells.specs.Events.{arrive, forward, learn}
use Rattle.world_cells.specs.World.{World, message, message_in, message_of, published_as, published_in, published}
use Rattle.event.specs.Events.{Foot, Does, arrives, forwards, learns, goes_on, moved_foot, learn_foot}
use Rattle.event.specs.Effects.{BringsLearnt, Happens}
use Rattle.event.specs.declared.effects.Effects.{Effects}
use Rattle.event.specs.Forwarding.{onward_of, delivery_onward}
use Rattle.event.specs.Ready.{lost, place_of}
use Rattle.event.specs.Walks.{board_walk}
use Rattle.event.specs.declared.ready.Unready.{Unready}
use Rattle.event.proofs.Noted.{quietly}
use Rattle.book_agenda.specs.Agendas.{can_learn, is_open, open_view}
use Rattle.book_refusals.specs.Refusals.{Refusal, first, refuse_where, no_message, not_there, not_ready, nothing_to_learn, refusal_of}
use Rattle.book.specs.Books.{Book}
use Rattle.book.specs.Calls.{AdmitsArrival, AdmitsForward, CanLearn}
use Rattle.book.specs.Refusals.{arrival_refusal, arrival_refusal_by, onward_refusal, forward_refusal, learning_refusal, full_refusal}
use Rattle.book.proofs.Checkouts.{next_is, none_mapped}
use Rattle.book.proofs.Within.{neither}

some_none : {A : Type 0} {a : A} → Some a ≡ None → ⊥
some_none e = cc

of_some : {A : Type 0} {x y : A} → Some x ≡ Some y → x ≡ y
of_some h = cc

-- what is no value is none
pub none_else : {A : Type 0} (o : Option A) → ((a : A) → o ≡ Some a → ⊥) → o ≡ None
none_else None h = refl
none_else (Some a) h = absurd (h a refl)

-- ---- arrivals

mapped_none : {A B : Type 0} (f : A → B) (o : Option A) → option_map f o ≡ None → is_some o ≡ false
mapped_none f None e = refl
mapped_none f (Some a) e = absurd (some_none e)

mapped_some : {A B : Type 0} (f : A → B) (o : Option A) (b : B) → option_map f o ≡ Some b → is_some o ≡ true
mapped_some f None b e = cc
mapped_some f (Some a) b e = refl

module _ (b : Book) (w : World) (same : w ≡ b.world) (m : MsgId) where
  pub lost_arrival : w (key.Msg m) ≡ None → arrival_refusal b m ≡ Some (no_message m)
  lost_arrival none = ap (λ (o : Option Message). first (arrival_refusal_by m o) (full_refusal b)) (ap (λ (v : World). message_of v m) (sym same) ∙ ap message_in none)

  module _ (g : Message) (there : w (key.Msg m) ≡ Some (message g)) where
    pub the_message : message_of b.world m ≡ Some g
    the_message = ap (λ (v : World). message_of v m) (sym same) ∙ ap message_in there

    tested : arrival_refusal b m ≡ first (refuse_where (not (is_some (flies_to g.place))) not_there) (full_refusal b)
    tested = ap (λ (o : Option Message). first (arrival_refusal_by m o) (full_refusal b)) the_message

    pub grounded_arrival : arrived g ≡ None → arrival_refusal b m ≡ Some not_there
    grounded_arrival none = tested ∙ ap (λ (t : Bool). first (refuse_where (not t) not_there) (full_refusal b)) (mapped_none _ (flies_to g.place) none)

    pub room_arrival : (h : Message) → arrived g ≡ Some h → arrival_refusal b m ≡ full_refusal b
    room_arrival h is = tested ∙ ap (λ (t : Bool). first (refuse_where (not t) not_there) (full_refusal b)) (mapped_some _ (flies_to g.place) h is)

pub room_for_arrival : (b : Book) (m : MsgId) → arrival_refusal b m ≡ None → full_refusal b ≡ None
room_for_arrival b m ok = neither (arrival_refusal_by m (message_of b.world m)) (full_refusal b) ok

pub arrival_does : (b : Book) (m : MsgId) (e : EventName) (h : Message) → AdmitsArrival b m e h → Does (record { name = e; act = arrive m }) b.world (moved_foot [] m h)
arrival_does b m e h a = arrives a.there a.arrives

-- ---- forwardings

module _ (b : Book) (w : World) (same : w ≡ b.world) (m : MsgId) where
  pub lost_forward : (reason : Unready) → lost w m ≡ Some reason → forward_refusal b m ≡ Some (refusal_of m reason)
  lost_forward reason e =
      ap (λ (o : Option Unready). first (option_map (refusal_of m) o) (first (onward_refusal b.world (message_of b.world m) (place_of (message_of b.world m))) (full_refusal b)))
      (ap (λ (v : World). lost v m) (sym same) ∙ e)

  module _ (g : Message) (v : VatNo) (there : g.place ≡ at_vat v) (waits : w (key.Msg m) ≡ Some (message g)) (found : lost w m ≡ None) where
    pub waiting_message : message_of b.world m ≡ Some g
    waiting_message = ap (λ (u : World). message_of u m) (sym same) ∙ ap message_in waits

    onward_is : onward_refusal b.world (message_of b.world m) (place_of (message_of b.world m)) ≡ refuse_where (not (is_some (onward_of w v g))) not_ready
    onward_is =
        ap (λ (o : Option Message). onward_refusal b.world o (place_of o)) waiting_message ∙ ap (λ (p : Place). onward_refusal b.world (Some g) (waits_at p)) there
        ∙ ap (λ (u : World). refuse_where (not (is_some (onward_of u v g))) not_ready) (sym same)

    forward_tested : forward_refusal b m ≡ first (refuse_where (not (is_some (onward_of w v g))) not_ready) (full_refusal b)
    forward_tested =
        next_is (option_map (refusal_of m) (lost b.world m)) _ (none_mapped m (lost b.world m) (ap (λ (u : World). lost u m) (sym same) ∙ found))
        ∙ ap (λ (o : Option Refusal). first o (full_refusal b)) onward_is

    pub stuck_forward : onward_of w v g ≡ None → forward_refusal b m ≡ Some not_ready
    stuck_forward none = forward_tested ∙ ap (λ o. first (refuse_where (not (is_some o)) not_ready) (full_refusal b)) none

    pub room_forward : (r : VatNo × List PromId) → onward_of w v g ≡ Some r → forward_refusal b m ≡ full_refusal b
    room_forward r is = forward_tested ∙ ap (λ o. first (refuse_where (not (is_some o)) not_ready) (full_refusal b)) is

-- a message at a vat can go on
pub can_go : (g : Message) (v to : VatNo) → g.place ≡ at_vat v → forwarded to g ≡ Some (record g { place = flying to })
can_go g v to there = ap (λ (p : Place). option_map (λ (u : VatNo). record g { place = flying to }) (waits_at p)) there

pub moves_on : (g : Message) (v to : VatNo) (h : Message) → g.place ≡ at_vat v → forwarded to g ≡ Some h → h ≡ record g { place = flying to }
moves_on g v to h there is = of_some (sym is ∙ can_go g v to there)

pub cannot_stay : (g : Message) (v to : VatNo) → g.place ≡ at_vat v → forwarded to g ≡ None → ⊥
cannot_stay g v to there none = some_none (sym (can_go g v to there) ∙ none)

pub room_for_forward : (b : Book) (m : MsgId) → forward_refusal b m ≡ None → full_refusal b ≡ None
room_for_forward b m ok = neither (onward_refusal b.world (message_of b.world m) (place_of (message_of b.world m))) (full_refusal b) (neither (option_map (refusal_of m) (lost b.world m)) _ ok)

-- only a call goes on
went_on : (o : Option VatNo) (on_the_way : List PromId) (to : VatNo) (through : List PromId) → option_map {U = VatNo × List PromId} (λ (u : VatNo). (u, on_the_way)) o ≡ Some (to, through) → (o ≡ Some to) × (on_the_way ≡ through)
went_on None ps to through e = absurd (some_none (sym e))
went_on (Some u) ps to through e =
    let pairs : (u, ps) ≡ (to, through) = of_some e in
    (ap (λ (q : VatNo × List PromId). Some q.0) pairs, ap (λ (q : VatNo × List PromId). q.1) pairs)

-- a call of a message that goes on
record CallsOn (w : World) (g : Message) (v to : VatNo) (through : List PromId) : Type 0 where
  call : Call
  is : g.delivery ≡ sent call
  end : goes_on v (board_walk w call.target).end ≡ Some to
  on_the_way : (board_walk w call.target).through ≡ through

called_on : (w : World) (g : Message) (v to : VatNo) (through : List PromId) (d : Delivery) → g.delivery ≡ d → delivery_onward w v d ≡ Some (to, through) → CallsOn w g v to through
called_on w g v to through (sent c) is on = let q = went_on (goes_on v (board_walk w c.target).end) (board_walk w c.target).through to through on in record { call = c; is = is; end = q.0; on_the_way = q.1 }
called_on w g v to through (opening earlier program) is on = absurd (some_none (sym on))
called_on w g v to through (asked program) is on = absurd (some_none (sym on))
called_on w g v to through (waiting block) is on = absurd (some_none (sym on))

pub forward_does : (b : Book) (m : MsgId) (e : EventName) (h : Message) (through : List PromId) → AdmitsForward b m e h through
    → Does (record { name = e; act = forward m }) b.world (moved_foot (map key.Board through) m h)
forward_does b m e h through a =
    let c = called_on b.world a.message a.here a.to through a.message.delivery refl a.onward in
    subst (λ (x : Message). Does (record { name = e; act = forward m }) b.world (moved_foot (map key.Board through) m x)) (sym a.forwards)
    (subst (λ (ps : List PromId). Does (record { name = e; act = forward m }) b.world (moved_foot (map key.Board ps) m (record (a.message) { place = flying a.to }))) c.on_the_way
    (forwards a.there a.waits c.is c.end))

-- ---- what vats learn

open_is : (o : Option heap.Content) → is_open o ≡ true → o ≡ Some (heap.viewed pending)
open_is (Some (heap.viewed pending)) e = refl
open_is (Some (heap.viewed (resolved v))) e = absurd (false≢true e)
open_is (Some (heap.bound x)) e = absurd (false≢true e)
open_is (Some (heap.held x)) e = absurd (false≢true e)
open_is (Some (heap.made x)) e = absurd (false≢true e)
open_is (Some (heap.fenced x)) e = absurd (false≢true e)
open_is None e = absurd (false≢true e)

and_false : (a : Bool) → (a && false) ≡ false
and_false true = refl
and_false false = refl

module _ (b : Book) (w : World) (same : w ≡ b.world) (v : VatNo) (p : PromId) where
  module _ (t : Bool) (is : can_learn w v p ≡ t) where
    pub learning_tested : refuse_where (not (can_learn b.world v p)) nothing_to_learn ≡ refuse_where (not t) nothing_to_learn
    learning_tested = ap (λ (x : Bool). refuse_where (not x) nothing_to_learn) (ap (λ (u : World). can_learn u v p) (sym same) ∙ is)

  pub closed_learning : open_view w p v ≡ false → refuse_where (not (can_learn b.world v p)) nothing_to_learn ≡ Some nothing_to_learn
  closed_learning e = learning_tested false (ap (λ (x : Bool). x && is_some (published_as w p)) e)

  pub unpublished_learning : w (key.Board p) ≡ None → refuse_where (not (can_learn b.world v p)) nothing_to_learn ≡ Some nothing_to_learn
  unpublished_learning e = learning_tested false (ap (λ o. open_view w p v && is_some (published_in o)) e ∙ and_false (open_view w p v))

  module _ (q : Published) (open_there : open_view w p v ≡ true) (told : w (key.Board p) ≡ Some (published q)) where
    pub some_learning : refuse_where (not (can_learn b.world v p)) nothing_to_learn ≡ None
    some_learning = learning_tested true (ap₂ (λ x o. x && is_some (published_in o)) open_there told)

    pub learns_it : CanLearn b.world v p q
    learns_it = subst (λ (u : World). CanLearn u v p q) same (record { unresolved = open_is _ open_there; resolved = ap published_in told })

-- a vat that can learn of a promise has it open, published as something
pub can_learn_parts : (w : World) (v : VatNo) (p : PromId) → can_learn w v p ≡ true → refuse_where (not (can_learn w v p)) nothing_to_learn ≡ None
can_learn_parts w v p e = ap (λ (x : Bool). refuse_where (not x) nothing_to_learn) e

pub cannot_learn : (b : Book) (v : VatNo) (p : PromId) → can_learn b.world v p ≡ false → learning_refusal b v p ≡ Some nothing_to_learn
cannot_learn b v p e = ap (λ (x : Bool). first (refuse_where (not x) nothing_to_learn) (full_refusal b)) e

pub room_for_learning : (b : Book) (v : VatNo) (p : PromId) → learning_refusal b v p ≡ None → full_refusal b ≡ None
room_for_learning b v p ok = neither (refuse_where (not (can_learn b.world v p)) nothing_to_learn) (full_refusal b) ok

-- a vat that learns what it can learn
pub learnt_happens : (w : World) (v : VatNo) (p : PromId) (e : EventName) (q : Published) (it : Effects) → CanLearn w v p q → BringsLearnt e w v p q it → (f : Foot) × Happens (record { name = e; act = learn v p }) f w it
learnt_happens w v p e q it can brings = (learn_foot v p brings.cells brings.left, record { does = ∣ quietly (learns can.unresolved can.resolved brings.leaves) refl it.notes.items brings.quiet ∣₁; brings = brings.brings })
