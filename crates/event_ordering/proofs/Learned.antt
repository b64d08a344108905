-- What a vat learns does in a world what its acts say.
use Rattle.std.proofs.Common.{◌≡◌, Bool, false, List, [], ◌∷◌, ◌++◌, map, Option, Some, None, refl, sym, ap, ◌∙◌, subst, append-nil}
use Rattle.std.specs.List.{list_any, AllByRecursion}
use Rattle.history.specs.Subject.{written}
use Rattle.ids.specs.declared.names.EventName.{EventName}
use Rattle.ids.specs.declared.names.VatNo.{VatNo}
use Rattle.ids.specs.declared.names.MsgId.{MsgId}
use Rattle.ids.specs.declared.names.PromId.{PromId}
use Rattle.ids.specs.declared.reference.Reference.{Reference}
use Rattle.ids.specs.declared.cells.CellKey.TheVariants as key
use Rattle.cells.proofs.Doings.{cells_only_grow}
use Rattle.eorder.specs.Acts.{Act}
use Rattle.eorder.specs.Carried.{fence_with}
use Rattle.eorder.specs.Fences.{member, names_in}
use Rattle.eorder.specs.Places.{Carrier, argument, published as in_publication, Place, fence_at, carried, sent_after}
use Rattle.eorder.specs.Worlds.{after_acts, SendsNew, Kept}
use Rattle.heap.specs.State as heap
use Rattle.heap.specs.State.{Cell, State, same_cell}
use Rattle.post.specs.Messages.{Published, done_in}
use Rattle.sends.specs.Vats.{reference_in, references, each_once, value_of, ended, entered, coming_in, Nothing}
use Rattle.world_cells.specs.World.{World, message_in, published_in, published_as, vat_state}
use Rattle.eval_rules.specs.At.{At}
use Rattle.eval_rules.specs.Doings.{behind, given_by}
use Rattle.eval_rules.specs.Outbox.{empty_outbox}
use Rattle.event.specs.Events.{events, in_world, Leaves, learnt, learning, untouched}
use Rattle.event_ordering.specs.Acts.{came_act, came_acts, learning_place, learning_acts}
use Rattle.event_ordering.specs.Acting.{joined_to}
use Rattle.event_ordering.specs.Deeds.{argument_fences, message_after, fences_of_world, is_done_in, happening}
use Rattle.event_ordering.specs.Laws.{Brings, DoneBy}
use Rattle.event_ordering.specs.Reading.{publication_fences, turn_fences}
use Rattle.event_ordering.proofs.Readings.{or_false}
use Rattle.event_ordering.proofs.Acted.{all_append}
use Rattle.event_ordering.proofs.Ending.{learning_acts_do}
use Rattle.event_ordering.proofs.Unmoved.{start_is_world, left_fence}
use Rattle.event_ordering.proofs.Written.{passed, all_pass, not_message, not_board}

-- no act of a learnt value is a send
came_none : (q : MsgId → Bool) (r : Reference) (d : Carrier) (o : Option Reference) → AllByRecursion (SendsNew q) (came_act d r o)
came_none q r d None = tt
came_none q r d (Some t) = (tt, tt)

came_send_none : (q : MsgId → Bool) (d : Carrier) (rs : List Reference) (a : At) → AllByRecursion (SendsNew q) (came_acts d rs a)
came_send_none q d [] a = tt
came_send_none q d (r ∷ rs) a =
    let o : Option Reference = reference_in (given_by (ended (value_of r)) a) in
    all_append (SendsNew q) (came_acts d rs a) (came_act d r o) (came_send_none q d rs a) (came_none q r d o)

join_send_none : (q : MsgId → Bool) (p : PromId) (o : Option Reference) → AllByRecursion (SendsNew q) (joined_to p o)
join_send_none q p None = tt
join_send_none q p (Some t) = (tt, tt)

learning_sends_none : (q : MsgId → Bool) (s : State) (p : PromId) (b : Published) → AllByRecursion (SendsNew q) (learning_acts s p b)
learning_sends_none q s p b =
    let a : At = learning_place s in
    let y : At = behind (coming_in b.fences (references b.value)) (behind (entered p b.value) a) in
    let o : Option Reference = given_by (entered p b.value) a in
    all_append (SendsNew q) (came_acts (in_publication p) (each_once [] (references b.value)) y) (joined_to p o) (came_send_none q (in_publication p) (each_once [] (references b.value)) y) (join_send_none q p o)

brought_by : (w : World) (p : PromId) (b : Published) → published_as w p ≡ Some b → Brings (fences_of_world w) (in_publication p) b.fences
brought_by w p b is r x = ap (λ o. member (names_in (fence_with (publication_fences o) r)) x) is

-- nothing was published before, and no event has a name: of what is learnt neither matters
abbrev never : PromId → Bool
never q = false

abbrev no_event : EventName
no_event = record { 0 = 0 }

module _ (w : World) (v : VatNo) (p : PromId) (b : Published) (cells : List Cell) (left : List (Cell × heap.Content)) (is : published_as w p ≡ Some b) (h : Leaves (learnt w v p b).touched (learnt w v p b).written (learnt w v p b).state cells left) where
  unwritten : (n : MsgId) → written events (in_world v left ++ []) w (key.Msg n) ≡ w (key.Msg n)
  unwritten n = passed (in_world v left) [] w (key.Msg n) (all_pass v left (key.Msg n) (not_message v n))

  stays : (c : Cell) → list_any (same_cell c) (map (λ p. p.0) left) ≡ false → (learnt w v p b).state c ≡ vat_state w v c
  stays c n = (cells_only_grow Cell heap.Content Nothing same_cell (learning p b) (untouched (vat_state w v))).stays c (sym (h.written c) ∙ n)

  reads : (k : Place) (x : MsgId) → fences_of_world (written events (in_world v left ++ []) w) k x ≡ turn_fences (fences_of_world w) v never no_event (learnt w v p b).state empty_outbox k x
  reads (fence_at u r) x = left_fence w v (learnt w v p b).state left [] h.contents stays (λ u r. refl) u r x
  reads (carried (argument n) r) x = ap (λ o. member (names_in (fence_with (argument_fences (message_in o)) r)) x) (unwritten n) ∙ sym (or_false (fences_of_world w (carried (argument n) r) x))
  reads (carried (in_publication q) r) x =
      ap (λ o. member (names_in (fence_with (publication_fences (published_in o)) r)) x) (passed (in_world v left) [] w (key.Board q) (all_pass v left (key.Board q) (not_board v q)))
      ∙ sym (or_false (fences_of_world w (carried (in_publication q) r) x))
  reads (sent_after n) x = ap (λ o. member (message_after (message_in o)) x) (unwritten n) ∙ sym (or_false (fences_of_world w (sent_after n) x))

  pub learn_law : Kept happening v w (written events (in_world v left) w) (learning_acts (vat_state w v) p b)
  learn_law =
      let acts : List Act = learning_acts (vat_state w v) p b in
      let d : DoneBy (fences_of_world w) never no_event v (vat_state w v) acts (learnt w v p b).state empty_outbox = learning_acts_do (fences_of_world w) never no_event v (vat_state w v) p b (brought_by w p b is) in
      subst (λ ps. Kept happening v w (written events ps w) acts) (append-nil (in_world v left))
      (record {
        cells = λ k x. reads k x ∙ ap (λ f. f k x) d.fences ∙ ap (λ f. after_acts v acts f k x) (start_is_world w v never no_event);
        done = λ n. ap (λ o. done_in (message_in o)) (unwritten n);
        sends = learning_sends_none (is_done_in w) (vat_state w v) p b;
      })
