-- A turn does in a world what its acts say.
use Rattle.std.proofs.Common.{◌≡◌, ℕ, Bool, true, false, cond, not, ◌||◌, ◌&&◌, List, [], ◌∷◌, ◌++◌, map, Option, Some, None, true≢false, refl, sym, ap, ◌∙◌, subst}
use Rattle.std.specs.List.{list_any, AllByRecursion}
use Rattle.history.specs.Subject.{written}
use Rattle.ids.specs.declared.names.EventName.{EventName}
use Rattle.ids.specs.declared.names.VatNo.{VatNo}
use Rattle.ids.specs.declared.names.MsgId.{MsgId}
use Rattle.ids.specs.declared.names.PromId.{PromId}
use Rattle.ids.specs.declared.reference.Reference.{Reference}
use Rattle.ids.specs.declared.cells.CellKey.TheVariants as key
use Rattle.eorder.specs.Acts.{Act, sent as sent_act, left as left_act, came as came_act, joined as joined_act}
use Rattle.eorder.specs.Places.{argument, published as in_publication, Place, fence_at, carried, sent_after, same_message}
use Rattle.eorder.specs.Worlds.{after_acts, SendsNew, TurnLaw}
use Rattle.eorder.proofs.Places.{message_equal}
use Rattle.heap.specs.State as heap
use Rattle.heap.specs.State.{Cell, Cells, State, same_cell}
use Rattle.post.specs.Delivery.{Delivery}
use Rattle.post.specs.Messages.{Message, Published, done, done_in, is_done}
use Rattle.world_cells.specs.World.{message, World, message_in, message_of, published_in, published_as, vat_state}
use Rattle.turn_deliveries.specs.Turn.{Found, Told, told, lost, Outcome, Delivers, delivers, telling, finish, outcome_by}
use Rattle.turn_deliveries.proofs.Turns.{delivery_same, delivery_un}
use Rattle.eval_rules.specs.At.{At}
use Rattle.event.specs.Events.{events, in_world, letters_from, on_the_board, counted, is_lost, Turn, Turns, TurnLeaves}
use Rattle.event.specs.Laws.{HasNoMessage}
use Rattle.event.specs.Ready.{first_undone}
use Rattle.event.specs.Walks.{looked_up, found_by, awaited}
use Rattle.event_ordering.specs.Acts.{delivery_acts}
use Rattle.event_ordering.specs.Deeds.{fences_of_world, is_done_in, walked_along, last_of, was_published, happening}
use Rattle.event_ordering.specs.Laws.{IsSentBy, DoneBy}
use Rattle.event_ordering.specs.Reading.{numbered, travels_in, publication_in, NoneDone, turn_fences}
use Rattle.event_ordering.proofs.Readings.{or_false}
use Rattle.event_ordering.proofs.Acted.{no_argument}
use Rattle.event_ordering.proofs.Awaiting.{ready_law, all_brings}
use Rattle.event_ordering.proofs.Ending.{deliveries_act}
use Rattle.event_ordering.proofs.Unmoved.{start_is_world, travels, comes_after, travels_asked, after_asked, left_fence}
use Rattle.event_ordering.proofs.Written.{Writes, passed, all_pass, not_message, not_board, letters_pass_fences, letters_pass_boards, board_passes_fences, board_passes_messages, asked_of, letters_read, letters_undone, went_with, boards_read}

-- an abandoned turn leaves its vat as it was
by_told : (t : Told) (s : State) (p : PromId) (z : At) → is_lost (outcome_by s p t z).told ≡ true → (outcome_by s p t z).state ≡ s
by_told (told r) s p z h = absurd (true≢false (sym h))
by_told (lost why) s p z h = refl

lost_stays : {g : Message} {f : Found} {e : EventName} {v : VatNo} {s : State} {n : ℕ} {o : Outcome} → Delivers g f e v s n o → is_lost o.told ≡ true → o.state ≡ s
lost_stays (delivers {g = g} {s = s} {o = o} {b = b} r) h = by_told (telling o b) s g.result (finish g.result o b) h

stays_case : (q z : Bool) (X : Type 0) → (not q && z) ≡ false → (q ≡ true → X) → (z ≡ false → X) → X
stays_case true z X h f g = f refl
stays_case false z X h f g = g h

none_travel : (q : PromId) (r : Reference) (x : MsgId) (ls : List (MsgId × Message)) → list_any (travels_in (in_publication q) r x) ls ≡ false
none_travel q r x [] = refl
none_travel q r x (l ∷ ls) = none_travel q r x ls

some_equal : {x y : Message} → Some x ≡ Some y → x ≡ y
some_equal e = cc

some≢none : {A : Type 0} {x : A} → Some x ≡ None → ⊥
some≢none e = cc

sends_new : (e : EventName) (q : MsgId → Bool) → ((k : MsgId) → k.event ≡ e → q k ≡ false) → (xs : List Act) → AllByRecursion (IsSentBy e) xs → AllByRecursion (SendsNew q) xs
sends_new e q f [] i = tt
sends_new e q f (sent_act k y ∷ xs) i = (f k i.0, sends_new e q f xs i.1)
sends_new e q f (left_act r c ∷ xs) i = (tt, sends_new e q f xs i.1)
sends_new e q f (came_act r c y ∷ xs) i = (tt, sends_new e q f xs i.1)
sends_new e q f (joined_act p y ∷ xs) i = (tt, sends_new e q f xs i.1)

module _ (e : EventName) (w : World) (m : MsgId) (n : ℕ) (t : Turn) (cells : List Cell) (left : List (Cell × heap.Content)) (h : Turns e w m n t) (l : TurnLeaves t cells left) (new : HasNoMessage e w) where
  -- what is written behind the vat's cells: messages, publications, and that the message is done
  abbrev letters : Writes
  letters = letters_from e 0 t.outcome.out.letters

  abbrev boards : Writes
  boards = on_the_board (counted w t.outcome.out.publications)

  abbrev done_message : Message
  done_message = record t.message { place = done e }

  abbrev last : Writes
  last = (key.Msg m, message done_message) ∷ []

  abbrev rest : Writes
  rest = letters ++ (boards ++ last)

  abbrev world : World
  world = written events (in_world t.vat left ++ rest) w

  is_there : message_of w m ≡ Some t.message
  is_there = ap message_in h.waiting

  -- ---- messages

  last_asked : (g : Delivery → List MsgId → Bool) (k : MsgId) (q : Bool) → same_message m k ≡ q → asked_of g (message_in (cond q (Some (message done_message)) (w (key.Msg k)))) ≡ asked_of g (message_of w k)
  last_asked g k true i = sym (ap (asked_of g) is_there) ∙ ap (λ x. asked_of g (message_of w x)) (message_equal m k i)
  last_asked g k false i = refl

  rest_asked : (g : Delivery → List MsgId → Bool) (k : MsgId) → asked_of g (message_in (written events (boards ++ last) w (key.Msg k))) ≡ asked_of g (message_of w k)
  rest_asked g k = ap (λ o. asked_of g (message_in o)) (passed boards last w (key.Msg k) (board_passes_messages (counted w t.outcome.out.publications) k)) ∙ last_asked g k (same_message m k) refl

  absent : (k : MsgId) → k.event ≡ e → w (key.Msg k) ≡ None
  absent k i = ap (λ x. w (key.Msg (record { event = x; index = k.index }))) i ∙ new k.index

  not_new : (k : MsgId) → k.event ≡ e → same_message m k ≡ true → ⊥
  not_new k i q = some≢none (sym h.waiting ∙ ap (λ x. w (key.Msg x)) (message_equal m k q) ∙ absent k i)

  made_asked : (g : Delivery → List MsgId → Bool) (k : MsgId) → asked_of g (message_of world k) ≡ (asked_of g (message_of w k) || list_any (λ x. same_message x.0 k && g x.1.delivery x.1.after) (numbered e 0 t.outcome.out.letters))
  made_asked g k =
      ap (λ o. asked_of g (message_in o)) (passed (in_world t.vat left) rest w (key.Msg k) (all_pass t.vat left (key.Msg k) (not_message t.vat k)))
      ∙ letters_read e g (boards ++ last) w k (λ i. rest_asked g k ∙ ap (λ o. asked_of g (message_in o)) (absent k i)) 0 t.outcome.out.letters
      ∙ ap (λ b. b || list_any (λ x. same_message x.0 k && g x.1.delivery x.1.after) (numbered e 0 t.outcome.out.letters)) (rest_asked g k)

  last_done : (k : MsgId) (q : Bool) → same_message m k ≡ q → done_in (message_in (cond q (Some (message done_message)) (w (key.Msg k)))) ≡ (q || is_done_in w k)
  last_done k true i = refl
  last_done k false i = refl

  rest_done : (k : MsgId) → done_in (message_in (written events (boards ++ last) w (key.Msg k))) ≡ (same_message m k || is_done_in w k)
  rest_done k = ap (λ o. done_in (message_in o)) (passed boards last w (key.Msg k) (board_passes_messages (counted w t.outcome.out.publications) k)) ∙ last_done k (same_message m k) refl

  undone_case : (k : MsgId) → k.event ≡ e → (q : Bool) → same_message m k ≡ q → (q || is_done_in w k) ≡ false
  undone_case k i true j = absurd (not_new k i j)
  undone_case k i false j = ap (λ o. done_in (message_in o)) (absent k i)

  new_undone : (k : MsgId) → k.event ≡ e → (same_message m k || is_done_in w k) ≡ false
  new_undone k i = undone_case k i (same_message m k) refl

  made_done : NoneDone t.outcome.out.letters → (k : MsgId) → is_done_in world k ≡ (same_message m k || is_done_in w k)
  made_done d k =
      ap (λ o. done_in (message_in o)) (passed (in_world t.vat left) rest w (key.Msg k) (all_pass t.vat left (key.Msg k) (not_message t.vat k)))
      ∙ letters_undone e (boards ++ last) w k (λ i. rest_done k ∙ new_undone k i) 0 t.outcome.out.letters d.each
      ∙ rest_done k

  -- ---- fences

  rest_fences : (u : VatNo) (r : Reference) → written events rest w (key.Fence u r) ≡ w (key.Fence u r)
  rest_fences u r =
      passed letters (boards ++ last) w (key.Fence u r) (letters_pass_fences e 0 t.outcome.out.letters u r)
      ∙ passed boards last w (key.Fence u r) (board_passes_fences (counted w t.outcome.out.publications) u r)

  stays : (c : Cell) → list_any (same_cell c) (map (λ p. p.0) left) ≡ false → t.outcome.state c ≡ vat_state w t.vat c
  stays c i =
      stays_case (is_lost t.outcome.told) (t.written c) (t.outcome.state c ≡ vat_state w t.vat c) (sym (l.written c) ∙ i)
      (λ q. ap (λ (s : State). s c) (lost_stays h.delivers.0 q)) (λ q. delivery_un h.delivers.0 c (ap (λ (s : Cells). s c) h.delivers.2 ∙ q))

  world_reads : (k : Place) (x : MsgId) → fences_of_world world k x ≡ turn_fences (fences_of_world w) t.vat (was_published w) e t.outcome.state t.outcome.out k x
  world_reads (fence_at u r) x = left_fence w t.vat t.outcome.state left rest l.contents stays rest_fences u r x
  world_reads (carried (argument k) r) x =
      let went : Bool = list_any (travels_in (argument k) r x) (numbered e 0 t.outcome.out.letters) in
      travels_asked r x (message_of world k) ∙ made_asked (travels r x) k ∙ ap (λ b. b || went) (sym (travels_asked r x (message_of w k)))
      ∙ ap (λ b. fences_of_world w (carried (argument k) r) x || b) (sym (or_false went))
      ∙ ap (λ o. fences_of_world w (carried (argument k) r) x || (went || went_with r x o)) (sym (no_argument (was_published w) t.outcome.out.publications k))
  world_reads (carried (in_publication q) r) x =
      let o : Option Published = publication_in (was_published w) t.outcome.out.publications (in_publication q) in
      ap (λ c. went_with r x (published_in c))
      (passed (in_world t.vat left) rest w (key.Board q) (all_pass t.vat left (key.Board q) (not_board t.vat q))
      ∙ passed letters (boards ++ last) w (key.Board q) (letters_pass_boards e 0 t.outcome.out.letters q))
      ∙ boards_read w q r x last (refl, tt) t.outcome.out.publications
      ∙ ap (λ b. went_with r x (published_as w q) || (b || went_with r x o)) (sym (none_travel q r x (numbered e 0 t.outcome.out.letters)))
  world_reads (sent_after k) x =
      after_asked x (message_of world k) ∙ made_asked (comes_after x) k
      ∙ ap (λ b. b || list_any (λ y. same_message y.0 k && comes_after x y.1.delivery y.1.after) (numbered e 0 t.outcome.out.letters)) (sym (after_asked x (message_of w k)))

  pub turn_law : (g : Message) (o : Outcome) → message_of w m ≡ Some g → (r : Delivers g (found_by w g.delivery) e t.vat (vat_state w t.vat) n o)
      → TurnLaw happening w world t.vat m (walked_along w (looked_up w g.delivery)) (delivery_acts (was_published w) m (last_of (looked_up w g.delivery)) r)
  turn_law g o is r =
      let v : VatNo = t.vat in
      let p : Option PromId = last_of (looked_up w g.delivery) in
      let acts : List Act = delivery_acts (was_published w) m p r in
      let one : g ≡ t.message = some_equal (sym is ∙ is_there) in
      let out : o ≡ t.outcome = delivery_same (subst (λ y. Delivers y (found_by w y.delivery) e v (vat_state w v) n o) one r) h.delivers.0 in
      let d : DoneBy (fences_of_world w) (was_published w) e v (vat_state w v) acts o.state o.out =
      deliveries_act (fences_of_world w) (was_published w) m p g (found_by w g.delivery) e v (vat_state w v) n o r (all_brings w m g is g.delivery refl) in
      let undone : NoneDone t.outcome.out.letters = subst (λ (y : Outcome). NoneDone y.out.letters) out d.undone in
      record {
        new = ap (λ y. done_in (message_in y)) h.waiting ∙ ap is_done h.there;
        ready = ready_law w m g is (ap (λ y. first_undone w (awaited w y)) one ∙ h.in_order);
        cells = λ k x. world_reads k x ∙ ap (λ (y : Outcome). turn_fences (fences_of_world w) v (was_published w) e y.state y.out k x) (sym out) ∙ ap (λ f. f k x) d.fences ∙ ap (λ f. after_acts v acts f k x) (start_is_world w v (was_published w) e);
        done = made_done undone;
        sends = sends_new e (is_done_in world) (λ k i. made_done undone k ∙ new_undone k i) acts d.sends;
      }
