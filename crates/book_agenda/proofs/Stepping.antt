-- What the program finds a message, or a vat, to do is what may be done.
use Rattle.std.proofs.Common.{◌≡◌, ℕ, ◌+◌, ◌<◌, Bool, true, false, cond, List, [], length, drop, get_or, ◌++◌, map, Option, Some, None, is_some, is_none, refl, sym, ap, ap₂, subst, ◌∙◌}
use Rattle.std.specs.Option.{option_map}
use Rattle.std.proofs.lemmas.Bool.{and_parts, and_from, false≢true}
use Rattle.std.proofs.lemmas.Option.{none-some, same_Some}
use Rattle.ids.specs.declared.names.VatNo.{VatNo}
use Rattle.ids.specs.declared.names.MsgId.{MsgId}
use Rattle.ids.specs.declared.names.PromId.{PromId}
use Rattle.heap.specs.State as heap
use Rattle.heap.specs.State.{pending, view_cell}
use Rattle.values.specs.Data.{Val, object, ejector, promise}
use Rattle.values.specs.Promises.{promise_of}
use Rattle.refs.specs.Walks.{Walk, ended, most_walked}
use Rattle.refs.proofs.Steps.{walk-value}
use Rattle.post.specs.Delivery.{Delivery, opening, asked, sent, waiting}
use Rattle.post.specs.Messages.{Place, flying, at_vat, done, Message, done_in, flies_to, waits_at as stands_at}
use Rattle.world_cells.specs.World.{World, message_of, published_as, vat_state}
use Rattle.event.specs.Events.{goes_on}
use Rattle.event.specs.Forwarding.{going_on, onward_of, delivery_onward}
use Rattle.event.specs.Ready.{lost_message, misplaced, place_of, unready_message, unready_at, leads_there, early_by, least_with, first_undone, IsReady}
use Rattle.event.proofs.Waiting.{drop_here}
use Rattle.event.specs.Walks.{by_the_board, is_there, ends_there, may_end, delivery_walk, board_walk, looked_up, awaited_along, awaited}
use Rattle.event.specs.declared.ready.Unready.{Unready}
use Rattle.event.specs.declared.ready.Unready.TheVariants as why
use Rattle.book_agenda.specs.Agendas.{is_open, open_view, can_learn}
use Rattle.book_agenda.specs.Ways.{behind, cues_here, stays, viewed, waits_here, waits_at, waits_of, waits_in}
use Rattle.book_agenda.specs.declared.ways.Cue.TheVariants as cue
use Rattle.book_agenda.specs.declared.waiting.Waits.{Waits}
use Rattle.book_agenda.specs.declared.waiting.Waits.TheVariants as waits
use Rattle.book_agenda.specs.Enabled.{Out, MayDo, may_arrive, may_forward, may_turn, may_learn, message_in}
use Rattle.book_agenda.specs.Found.{step_in, step_of, moves_in, moves, step_by, message_step, learn_step}
use Rattle.book_agenda.specs.declared.agenda.Known.{Known}
use Rattle.book_agenda.specs.declared.agenda.Step.{Step}
use Rattle.book_agenda.specs.declared.agenda.Move.TheVariants as move
use Rattle.book_agenda.specs.declared.agenda.Step.TheVariants as step

-- what there is, by a test
something : {A : Type 0} (o : Option A) → is_some o ≡ true → (x : A) × (o ≡ Some x)
something None h = absurd (false≢true h)
something (Some x) h = (x, refl)

nothing_there : {A : Type 0} (o : Option A) → is_none o ≡ true → o ≡ None
nothing_there None h = refl
nothing_there (Some x) h = absurd (false≢true h)

is_something : {A : Type 0} (o : Option A) (x : A) → o ≡ Some x → is_some o ≡ true
is_something o x h = ap is_some h

-- ---- what is not done

some_least : (m : MsgId) (o : Option MsgId) → is_none (least_with m o) ≡ false
some_least m None = refl
some_least m (Some n) = refl

-- where one of them is not done
pub one_undone : (w : World) (ms : List MsgId) (i : ℕ) (m : MsgId) → i < length ms → m ≡ get_or ms i m → first_undone w (drop i ms) ≡ first_undone w ms → done_in (message_of w m) ≡ false → is_none (first_undone w ms) ≡ false
one_undone w ms i m h at rest undone =
    ap is_none (sym rest) ∙ ap (λ l. is_none (first_undone w l)) (drop_here ms i m h at)
    ∙ ap (λ b. is_none (cond b (first_undone w (drop (i + 1) ms)) (least_with m (first_undone w (drop (i + 1) ms))))) undone
    ∙ some_least m (first_undone w (drop (i + 1) ms))

-- ---- where a message is

flying_to : (x : Place) (v : VatNo) → flies_to x ≡ Some v → x ≡ flying v
flying_to (flying u) v h = ap flying (same_Some u v h)
flying_to (at_vat u) v h = absurd (none-some v h)
flying_to (done e) v h = absurd (none-some v h)

waiting_at : (x : Place) (v : VatNo) → stands_at x ≡ Some v → x ≡ at_vat v
waiting_at (flying u) v h = absurd (none-some v h)
waiting_at (at_vat u) v h = ap at_vat (same_Some u v h)
waiting_at (done e) v h = absurd (none-some v h)

-- ---- a message that is ready goes nowhere else

stays_there : (v : VatNo) (o : Option Val) → ends_there v o ≡ true → goes_on v o ≡ None
stays_there v None h = refl
stays_there v (Some (object i)) h = ap (λ b. cond b None (Some i.vat)) h
stays_there v (Some (ejector j)) h = ap (λ b. cond b None (Some j.vat)) h
stays_there v (Some (promise p)) h = absurd (false≢true h)
stays_there v (Some u) h = refl

no_way : (w : World) (v : VatNo) (d : Delivery) → may_end v d (delivery_walk w v d).end ≡ true → delivery_onward w v d ≡ None
no_way w v (sent c) h = ap (λ (o : Option VatNo). option_map (λ u. (u, (board_walk w c.target).through)) o) (stays_there v (board_walk w c.target).end h)
no_way w v (opening e p) h = refl
no_way w v (asked p) h = refl
no_way w v (waiting b) h = refl

leads_if_ready : (w : World) (v : VatNo) (g : Message) → unready_at w v g ≡ None → leads_there w v g ≡ true
leads_if_ready w v g h = by (leads_there w v g) h
  where
    by : (b : Bool) → cond b (early_by (first_undone w (awaited w g))) (Some why.NotReady) ≡ None → b ≡ true
    by true e = refl
    by false e = absurd (none-some why.NotReady (sym e))

-- ---- readiness, at the vat where a message is

module _ (w : World) (m : MsgId) (g : Message) (v : VatNo) (there : message_of w m ≡ Some g) (here : stands_at g.place ≡ Some v) where
  ready_from : unready_at w v g ≡ None → IsReady w m
  ready_from h = record {
    at_a_vat = ap lost_message there ∙ ap misplaced here;
    in_order = ap (λ o. unready_message w o (place_of o)) there ∙ ap (unready_message w (Some g)) here ∙ h;
  }

  ready_at : IsReady w m → unready_at w v g ≡ None
  ready_at r = sym (ap (λ o. unready_message w o (place_of o)) there ∙ ap (unready_message w (Some g)) here) ∙ r.in_order

-- ---- what is found may be done

module _ (w : World) (out : Out) where
  -- that a step may be done, and is of this message
  abbrev pub MayDoBy : MsgId → Step → Type 0
  MayDoBy m s = (message_in s ≡ Some m) × MayDo w out s

  turns_found : (m : MsgId) (g : Message) (v : VatNo) (s : Step) → message_of w m ≡ Some g → stands_at g.place ≡ Some v → (b : Bool) → is_none (unready_at w v g) ≡ b → (a : Bool) → out v ≡ a
      → cond a None (cond b (Some (step.Turn m)) None) ≡ Some s → MayDoBy m s
  turns_found m g v s there here b ready true o h = absurd (none-some s h)
  turns_found m g v s there here false ready false o h = absurd (none-some s h)
  turns_found m g v s there here true ready false o h = subst (MayDoBy m) (same_Some (step.Turn m) s h) (refl, may_turn there here o (ready_from w m g v there here (nothing_there (unready_at w v g) ready)))

  found_at : (m : MsgId) (g : Message) (v : VatNo) (s : Step) → message_of w m ≡ Some g → stands_at g.place ≡ Some v → (b : Bool) → is_some (onward_of w v g) ≡ b
      → cond b (Some (step.Move (move.Forward m))) (cond (out v) None (cond (is_none (unready_at w v g)) (Some (step.Turn m)) None)) ≡ Some s → MayDoBy m s
  found_at m g v s there here true goes h = subst (MayDoBy m) (same_Some (step.Move (move.Forward m)) s h) (refl, may_forward there here (something (onward_of w v g) goes).1)
  found_at m g v s there here false goes h = turns_found m g v s there here (is_none (unready_at w v g)) refl (out v) refl h

  found_in : (m : MsgId) (g : Message) (s : Step) → message_of w m ≡ Some g → (x : Place) → g.place ≡ x → step_in w out m g x ≡ Some s → MayDoBy m s
  found_in m g s there (flying v) at h = subst (MayDoBy m) (same_Some (step.Move (move.Arrive m)) s h) (refl, may_arrive there (ap flies_to at))
  found_in m g s there (at_vat v) at h = found_at m g v s there (ap stands_at at) (is_some (onward_of w v g)) refl h
  found_in m g s there (done e) at h = absurd (none-some s h)

  pub found_may : (m : MsgId) (s : Step) → message_step w out m ≡ Some s → MayDoBy m s
  found_may m s h = by (message_of w m) refl h
    where
      by : (o : Option Message) → message_of w m ≡ o → step_of w out m o ≡ Some s → MayDoBy m s
      by None there e = absurd (none-some s e)
      by (Some g) there e = found_in m g s there g.place refl e

  -- ---- what may be done is found

  at_place : (m : MsgId) (g : Message) (x : Place) → message_of w m ≡ Some g → g.place ≡ x → message_step w out m ≡ step_in w out m g x
  at_place m g x there at = ap (step_of w out m) there ∙ ap (step_in w out m g) at

  may_found_of : (s : Step) → MayDo w out s → (m : MsgId) → message_in s ≡ Some m → message_step w out m ≡ Some s
  may_found_of _ (may_arrive {m = n} {g = g} {v = v} there at) m h = subst (λ k. message_step w out k ≡ Some (step.Move (move.Arrive n))) (same_Some n m h) (at_place n g (flying v) there (flying_to g.place v at))
  may_found_of _ (may_forward {m = n} {g = g} {v = v} {r = r} there at goes) m h =
      subst (λ k. message_step w out k ≡ Some (step.Move (move.Forward n))) (same_Some n m h)
      (at_place n g (at_vat v) there (waiting_at g.place v at) ∙ ap (λ b. cond b (Some (step.Move (move.Forward n))) (cond (out v) None (cond (is_none (unready_at w v g)) (Some (step.Turn n)) None))) (is_something (onward_of w v g) r goes))
  may_found_of _ (may_turn {m = n} {g = g} {v = v} there at o ready) m h =
      let free = ready_at w n g v there at ready in
      subst (λ k. message_step w out k ≡ Some (step.Turn n)) (same_Some n m h)
      (at_place n g (at_vat v) there (waiting_at g.place v at)
      ∙ ap (λ (x : Option (VatNo × List PromId)). cond (is_some x) (Some (step.Move (move.Forward n))) (cond (out v) None (cond (is_none (unready_at w v g)) (Some (step.Turn n)) None))) (no_way w v g.delivery (leads_if_ready w v g free))
      ∙ ap (λ b. cond b None (cond (is_none (unready_at w v g)) (Some (step.Turn n)) None)) o
      ∙ ap (λ (x : Option Unready). cond (is_none x) (Some (step.Turn n)) None) free)
  may_found_of _ (may_learn there known o) m h = absurd (none-some m h)

  pub may_found : (s : Step) → MayDo w out s → (m : MsgId) → message_in s ≡ Some m → message_step w out m ≡ Some s
  may_found = may_found_of

  -- ---- what a message does that waits so

  step_here : (m : MsgId) (g : Message) (v : VatNo) → message_of w m ≡ Some g → g.place ≡ at_vat v → (b : Bool) → is_some (onward_of w v g) ≡ b → (c : Bool) → is_none (unready_at w v g) ≡ c
      → step_by w out m (cond b waits.Moving (cond c (waits.Ready v) waits.Behind)) ≡ message_step w out m
  step_here m g v there at b goes c ready = by b c ∙ sym (at_place m g (at_vat v) there at ∙ ap₂ (λ x y. cond x (Some (step.Move (move.Forward m))) (cond (out v) None (cond y (Some (step.Turn m)) None))) goes ready)
    where
      never : (o : Bool) → ◌≡◌ {A = Option Step} None (cond o None None)
      never true = refl
      never false = refl

      by : (x y : Bool) → step_by w out m (cond x waits.Moving (cond y (waits.Ready v) waits.Behind)) ≡ cond x (Some (step.Move (move.Forward m))) (cond (out v) None (cond y (Some (step.Turn m)) None))
      by true y = ap (moves m) there ∙ ap (moves_in m) at
      by false true = refl
      by false false = never (out v)

  -- THE LEMMA: it is what the message can do
  pub step_right : (m : MsgId) (x : Waits) → waits_in w m ≡ Some x → step_by w out m x ≡ message_step w out m
  step_right m x h = by (message_of w m) refl h
    where
      at : (g : Message) → message_of w m ≡ Some g → (y : Place) → g.place ≡ y → waits_at w g y ≡ Some x → step_by w out m x ≡ message_step w out m
      at g there (flying v) e k = ap (step_by w out m) (sym (same_Some waits.Moving x k)) ∙ ap (moves m) there ∙ ap (moves_in m) e ∙ sym (at_place m g (flying v) there e)
      at g there (at_vat v) e k = ap (step_by w out m) (sym (same_Some (waits_here w v g) x k)) ∙ step_here m g v there e (is_some (onward_of w v g)) refl (is_none (unready_at w v g)) refl
      at g there (done f) e k = absurd (none-some x k)

      by : (o : Option Message) → message_of w m ≡ o → waits_of w o ≡ Some x → step_by w out m x ≡ message_step w out m
      by None there k = absurd (none-some x k)
      by (Some g) there k = at g there g.place refl k

  -- a message that can do something waits in some way
  pub found_waits : (m : MsgId) (s : Step) → message_step w out m ≡ Some s → (x : Waits) × (waits_in w m ≡ Some x)
  found_waits m s h = by (message_of w m) refl h
    where
      at : (g : Message) → message_of w m ≡ Some g → (y : Place) → g.place ≡ y → step_in w out m g y ≡ Some s → (x : Waits) × (waits_at w g y ≡ Some x)
      at g there (flying v) e k = (waits.Moving, refl)
      at g there (at_vat v) e k = (waits_here w v g, refl)
      at g there (done f) e k = absurd (none-some s k)

      by : (o : Option Message) → message_of w m ≡ o → step_of w out m o ≡ Some s → (x : Waits) × (waits_of w o ≡ Some x)
      by None there k = absurd (none-some s k)
      by (Some g) there k = at g there g.place refl k

-- ---- a delivery that is made in its vat whatever is published or learnt

module _ (w : World) where
  -- it goes nowhere else, and looks nothing up
  abbrev Settled : VatNo → Delivery → Type 0
  Settled v d = (delivery_onward w v d ≡ None) × (may_end v d (delivery_walk w v d).end ≡ true) × (looked_up w d ≡ []) × (viewed w v d ≡ [])

  no_promise : (v : VatNo) (u : Val) → is_there v u ≡ true → promise_of u ≡ None
  no_promise v (promise p) h = absurd (false≢true h)
  no_promise v (object i) h = refl
  no_promise v (ejector j) h = refl
  no_promise v u h = refl

  settled : (v : VatNo) (d : Delivery) → stays v d ≡ true → Settled v d
  settled v (sent c) h =
      let ends : board_walk w c.target ≡ ended c.target = walk-value most_walked (by_the_board w) [] c.target (no_promise v c.target h) in (
        ap (going_on v) ends ∙ ap (λ (o : Option VatNo). option_map (λ u. (u, (ended c.target).through)) o) (stays_there v (Some c.target) h),
        ap (λ (k : Walk). ends_there v k.end) ends ∙ h,
        ap (λ (k : Walk). k.through) ends,
        refl,
      )
  settled v (opening e p) h = (refl, refl, refl, refl)
  settled v (asked p) h = (refl, refl, refl, refl)
  settled v (waiting b) h = absurd (false≢true h)

  none_early : (o : Option MsgId) → is_none (early_by o) ≡ is_none o
  none_early None = refl
  none_early (Some m) = refl

  -- so it is ready once the messages are done that it comes after
  pub settled_way : (v : VatNo) (g : Message) → stays v g.delivery ≡ true → waits_here w v g ≡ behind w v g.after
  settled_way v g h =
      let s = settled v g.delivery h in
      ap (λ (o : Option (VatNo × List PromId)). cond (is_some o) waits.Moving (cond (is_none (unready_at w v g)) (waits.Ready v) waits.Behind)) s.0
      ∙ ap (λ b. cond b (waits.Ready v) waits.Behind)
      (ap (λ b. is_none (cond b (early_by (first_undone w (awaited w g))) (Some why.NotReady))) s.1
      ∙ none_early (first_undone w (awaited w g)) ∙ ap (λ ps. is_none (first_undone w (awaited_along w g.after ps))) s.2)

  -- and their cells tell it
  pub settled_cues : (v : VatNo) (g : Message) → stays v g.delivery ≡ true → cues_here w v g ≡ map cue.Message g.after
  settled_cues v g h =
      let s = settled v g.delivery h in
      ap₂ (λ ps qs. map cue.Board ps ++ (map (λ p. cue.View v p) qs ++ map cue.Message (awaited_along w g.after ps))) s.2 s.3

-- ---- learning

pub learning_is : (out : Out) (k : Known) (s : Step) → learn_step out k ≡ Some s → (out k.vat ≡ false) × (step.Move (move.Learn k.vat k.promise) ≡ s)
learning_is out k s h = by (out k.vat) h
  where
    by : (b : Bool) → cond b None (Some (step.Move (move.Learn k.vat k.promise))) ≡ Some s → (b ≡ false) × (step.Move (move.Learn k.vat k.promise) ≡ s)
    by true e = absurd (none-some s e)
    by false e = (refl, same_Some (step.Move (move.Learn k.vat k.promise)) s e)

open_is : (o : Option heap.Content) → is_open o ≡ true → o ≡ Some (heap.viewed pending)
open_is (Some (heap.viewed pending)) h = refl
open_is None h = absurd (false≢true h)
open_is (Some (heap.viewed (heap.resolved v))) h = absurd (false≢true h)
open_is (Some (heap.bound b)) h = absurd (false≢true h)
open_is (Some (heap.held v)) h = absurd (false≢true h)
open_is (Some (heap.made o)) h = absurd (false≢true h)
open_is (Some (heap.fenced names)) h = absurd (false≢true h)

-- a vat may learn what it can learn of, and nothing else
pub learn_may : (w : World) (out : Out) (v : VatNo) (p : PromId) → can_learn w v p ≡ true → out v ≡ false → MayDo w out (step.Move (move.Learn v p))
learn_may w out v p h o =
    let parts = and_parts (open_view w p v) (is_some (published_as w p)) h in
    may_learn (open_is (vat_state w v (view_cell p)) parts.0) parts.1 o

pub learnable : (w : World) (v : VatNo) (p : PromId) → vat_state w v (view_cell p) ≡ Some (heap.viewed pending) → is_some (published_as w p) ≡ true → can_learn w v p ≡ true
learnable w v p there known = and_from (open_view w p v) (is_some (published_as w p)) (ap is_open there) known
