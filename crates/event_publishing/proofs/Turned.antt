-- What a turn does to messages, resolvers, views and the board.
use Rattle.std.proofs.Common.{◌≡◌, ℕ, ◌+◌, ◌≤◌, Bool, true, false, cond, not, ◌&&◌, List, [], ◌∷◌, ◌++◌, map, Some, None, is_some, true≢false, inl, inr, ◌⊎◌, ⊎_elim, refl, sym, ap, ◌∙◌, subst, arith}
use Rattle.std.proofs.lemmas.Bool.{false_from_ne_true}
use Rattle.std.specs.List.{list_any, AllByRecursion}
use Rattle.std.specs.Ordering.{is_eq}
use Rattle.history.specs.Subject.{written}
use Rattle.history.proofs.Lists.{all_map}
use Rattle.ids.proofs.Keys.{equal, exact_promises, message_self}
use Rattle.ids.specs.Cells.{promise_cmp}
use Rattle.ids.specs.declared.names.EventName.{EventName}
use Rattle.ids.specs.declared.names.VatNo.{VatNo}
use Rattle.ids.specs.declared.names.MsgId.{MsgId}
use Rattle.ids.specs.declared.names.PromId.{PromId}
use Rattle.ids.specs.declared.names.ObjId.{ObjId}
use Rattle.ids.specs.declared.cells.CellKey.TheVariants as key
use Rattle.eorder.specs.Places.{same_message}
use Rattle.eorder.proofs.Places.{message_equal}
use Rattle.heap.specs.State as heap
use Rattle.heap.specs.State.{Cell, Cells, State, same_cell}
use Rattle.post.specs.Messages.{Message, Published, done, is_done}
use Rattle.world_cells.specs.World.{message, World, message_in, message_of, published_in, published_as, vat_state}
use Rattle.turn_deliveries.specs.Turn.{Found, Told, told, lost, Outcome, Delivers, delivers, telling, finish, outcome_by}
use Rattle.turn_deliveries.proofs.Turns.{delivery_un}
use Rattle.eval_rules.specs.At.{At}
use Rattle.event.specs.Events.{events, in_world, letters_from, on_the_board, counted, is_lost, Turn, Turns, TurnLeaves}
use Rattle.event_ordering.proofs.Written.{Writes, Passes, passed, all_pass, not_message, not_board, letters_pass_boards, board_passes_messages}
use Rattle.event_publishing.proofs.Calm.{knows}
use Rattle.event_publishing.proofs.Orderly.{Letters, Rise, Paired, Resolved}
use Rattle.event_publishing.proofs.Delivered.{TurnedIn, delivery_turned}
use Rattle.event_publishing.proofs.Left.{vat_resolver, resolver_left, knows_left, knows_on}
use Rattle.event_publishing.proofs.Worlds.{ResolverAt, Sound, Had, Resolves, IsResult, Happens}

-- ---- the messages that it sends

-- one of these, by its number
abbrev pub IsLetter : EventName → ℕ → Letters → MsgId → Message → Type 0
IsLetter e i [] n h = ⊥
IsLetter e i (l ∷ ls) n h = ((n ≡ record { event = e; index = i }) × (h ≡ l.1)) ⊎ IsLetter e (i + 1) ls n h

letter_event : (e : EventName) (i : ℕ) (ls : Letters) (n : MsgId) (h : Message) → IsLetter e i ls n h → n.event ≡ e
letter_event e i [] n h s = absurd s
letter_event e i (l ∷ ls) n h s = ⊎_elim (λ x. ap (λ (m : MsgId). m.event) x.0) (λ x. letter_event e (i + 1) ls n h x) s

letter_result : (e : EventName) (i j k : ℕ) (ls : Letters) (n : MsgId) (h : Message) → Rise e j k ls → IsLetter e i ls n h → (h.result.event ≡ e) × (j ≤ h.result.index)
letter_result e i j k [] n h r s = absurd s
letter_result e i j k (l ∷ ls) n h r s = ⊎_elim
    (λ x. subst (λ (g : Message). (g.result.event ≡ e) × (j ≤ g.result.index)) (sym x.1) (r.0, r.1))
    (λ x. let y = letter_result e (i + 1) (l.1.result.index + 1) k ls n h r.2 x in (y.0, omega (arith, r.1, y.1))) s

letter_alone : (e : EventName) (i : ℕ) (ls : Letters) (n : MsgId) (h : Message) (p : PromId) → AllByRecursion (λ l. l.1.result ≡ p → ⊥) ls → IsLetter e i ls n h → h.result ≡ p → ⊥
letter_alone e i [] n h p a s = absurd s
letter_alone e i (l ∷ ls) n h p a s = ⊎_elim (λ x same. a.0 (ap (λ (g : Message). g.result) (sym x.1) ∙ same)) (λ x. letter_alone e (i + 1) ls n h p a.1 x) s

-- a later message has a later result
not_later : (e : EventName) (i k : ℕ) (l : MsgId × Message) (ls : Letters) (n : MsgId) (h g : Message) → Rise e (l.1.result.index + 1) k ls → h ≡ l.1 → IsLetter e i ls n g → h.result ≡ g.result → ⊥
not_later e i k l ls n h g r same s eq =
    let y : l.1.result.index + 1 ≤ g.result.index = (letter_result e i (l.1.result.index + 1) k ls n g r s).1 in
    let z : l.1.result.index ≡ g.result.index = ap (λ (x : Message). x.result.index) (sym same) ∙ ap (λ (p : PromId). p.index) eq in
    absurd (omega (arith, y, z))

letter_apart : (e : EventName) (i j k : ℕ) (ls : Letters) (n m : MsgId) (h g : Message) → Rise e j k ls → IsLetter e i ls n h → IsLetter e i ls m g → h.result ≡ g.result → n ≡ m
letter_apart e i j k [] n m h g r s t eq = absurd s
letter_apart e i j k (l ∷ ls) n m h g r s t eq = ⊎_elim
    (λ x. ⊎_elim (λ y. x.0 ∙ sym y.0) (λ y. absurd (not_later e (i + 1) k l ls m h g r.2 x.1 y eq)) t)
    (λ x. ⊎_elim (λ y. absurd (not_later e (i + 1) k l ls n g h r.2 y.1 x (sym eq))) (λ y. letter_apart e (i + 1) (l.1.result.index + 1) k ls n m h g r.2 x y eq) t) s

some_message : {x y : Message} → Some x ≡ Some y → y ≡ x
some_message e = cc

-- a message is one of these, or was written behind them
letter_there : (e : EventName) (more : Writes) (w : World) (n : MsgId) (h : Message) (i : ℕ) (ls : Letters) → message_in (written events (letters_from e i ls ++ more) w (key.Msg n)) ≡ Some h → IsLetter e i ls n h ⊎ (message_in (written events more w (key.Msg n)) ≡ Some h)
letter_there e more w n h i [] is = inr is
letter_there e more w n h i (l ∷ ls) is = go (same_message (record { event = e; index = i }) n) refl is (letter_there e more w n h (i + 1) ls)
  where
    go : (q : Bool) → same_message (record { event = e; index = i }) n ≡ q → message_in (cond q (Some (message l.1)) (written events (letters_from e (i + 1) ls ++ more) w (key.Msg n))) ≡ Some h
        → (message_in (written events (letters_from e (i + 1) ls ++ more) w (key.Msg n)) ≡ Some h → IsLetter e (i + 1) ls n h ⊎ (message_in (written events more w (key.Msg n)) ≡ Some h))
        → (((n ≡ record { event = e; index = i }) × (h ≡ l.1)) ⊎ IsLetter e (i + 1) ls n h) ⊎ (message_in (written events more w (key.Msg n)) ≡ Some h)
    go true t is ih = inl (inl (sym (message_equal (record { event = e; index = i }) n t), some_message is))
    go false t is ih = ⊎_elim (λ x. inl (inr x)) inr (ih is)

letters_pass_objects : (e : EventName) (i : ℕ) (ls : Letters) (j : ObjId) → Passes (key.Object j) (letters_from e i ls)
letters_pass_objects e i [] j = tt
letters_pass_objects e i (l ∷ ls) j = (refl, letters_pass_objects e (i + 1) ls j)

letters_pass_views : (e : EventName) (i : ℕ) (ls : Letters) (v : VatNo) (p : PromId) → Passes (key.View v p) (letters_from e i ls)
letters_pass_views e i [] v p = tt
letters_pass_views e i (l ∷ ls) v p = (refl, letters_pass_views e (i + 1) ls v p)

-- ---- what it publishes

board_passes_objects : (bs : List (PromId × Published)) (j : ObjId) → Passes (key.Object j) (on_the_board bs)
board_passes_objects [] j = tt
board_passes_objects (b ∷ bs) j = (refl, board_passes_objects bs j)

board_passes_views : (bs : List (PromId × Published)) (v : VatNo) (p : PromId) → Passes (key.View v p) (on_the_board bs)
board_passes_views [] v p = tt
board_passes_views (b ∷ bs) v p = (refl, board_passes_views bs v p)

-- a promise that is none of these, if it counts, is not written
pub board_passes : (w : World) (bs : List (PromId × Published)) (p : PromId) → AllByRecursion (λ b. is_some (published_as w b.0) ≡ false → b.0 ≡ p → ⊥) bs → Passes (key.Board p) (on_the_board (counted w bs))
board_passes w [] p h = tt
board_passes w (b ∷ bs) p h = go (is_some (published_as w b.0)) refl (board_passes w bs p h.1)
  where
    go : (q : Bool) → is_some (published_as w b.0) ≡ q → Passes (key.Board p) (on_the_board (counted w bs)) → Passes (key.Board p) (on_the_board (cond q (counted w bs) (b ∷ counted w bs)))
    go true e more = more
    go false e more = (false_from_ne_true (is_eq (promise_cmp b.0 p)) (λ t. h.0 e (exact_promises b.0 p (equal (promise_cmp b.0 p) t))), more)

-- ---- cells that it did not write

-- an abandoned turn leaves its vat as it was
by_told : (t : Told) (s : State) (p : PromId) (z : At) → is_lost (outcome_by s p t z).told ≡ true → (outcome_by s p t z).state ≡ s
by_told (told r) s p z h = absurd (true≢false (sym h))
by_told (lost why) s p z h = refl

lost_stays : {g : Message} {f : Found} {e : EventName} {v : VatNo} {s : State} {n : ℕ} {o : Outcome} → Delivers g f e v s n o → is_lost o.told ≡ true → o.state ≡ s
lost_stays (delivers {g = g} {s = s} {o = o} {b = b} r) h = by_told (telling o b) s g.result (finish g.result o b) h

stays_case : (q z : Bool) (X : Type 0) → (not q && z) ≡ false → (q ≡ true → X) → (z ≡ false → X) → X
stays_case true z X h f g = f refl
stays_case false z X h f g = g h

-- ---- a turn

module _ (old : EventName → Type 0) (e : EventName) (w : World) (m : MsgId) (n : ℕ) (t : Turn) (h : Turns e w m n t) (sound : Sound old w) (new : old e → ⊥) where
  abbrev state : State
  state = vat_state w t.vat

  abbrev result : PromId
  result = t.message.result

  abbrev sends : Letters
  sends = t.outcome.out.letters

  abbrev IsPaired : PromId → Type 0
  IsPaired p = Paired e t.vat t.outcome.out.promises sends p

  abbrev IsSettled : PromId → Type 0
  IsSettled p = Resolved e t.vat state (knows t.outcome.state) t.outcome.out.promises sends p

  abbrev Publishes : PromId → Type 0
  Publishes p = (p ≡ result) ⊎ IsSettled p

  turned : TurnedIn e t.vat state result t.outcome.state t.outcome.out
  turned = delivery_turned h.delivers.0

  is_there : message_of w m ≡ Some t.message
  is_there = ap message_in h.waiting

  -- what it publishes was not published
  unpublished : (p : PromId) → Publishes p → published_as w p ≡ None
  unpublished p x = ⊎_elim
      (λ same. subst (λ q. published_as w q ≡ None) (sym same) (sound.waiting m t.message is_there (ap is_done h.there)))
      (λ r. ⊎_elim
      (λ y. let z = vat_resolver w t.vat y.0 p y.1 in sound.unused y.0 p z.0 (ap (λ v. knows (vat_state w v) p) ((sound.resolvers y.0 p z.0).1 ∙ z.1) ∙ r.open_before))
      (λ y. sound.board p (λ o. new (subst old y.event o))) r.owned) x

  pub all_unpublished : AllByRecursion (λ b. published_as w b.0 ≡ None) t.outcome.out.publications
  all_unpublished = all_map (λ b. Publishes b.0) (λ b. published_as w b.0 ≡ None) t.outcome.out.publications (λ b x. unpublished b.0 x) turned.published

  module _ (cells : List Cell) (left : List (Cell × heap.Content)) (l : TurnLeaves t cells left) where
    abbrev letters : Writes
    letters = letters_from e 0 sends

    abbrev boards : Writes
    boards = on_the_board (counted w t.outcome.out.publications)

    abbrev done_message : Message
    done_message = record t.message { place = done e }

    abbrev last : Writes
    last = (key.Msg m, message done_message) ∷ []

    abbrev rest : Writes
    rest = letters ++ (boards ++ last)

    abbrev world : World
    world = written events (in_world t.vat left ++ rest) w

    -- ---- messages

    behind_letters : (k : MsgId) → written events (boards ++ last) w (key.Msg k) ≡ written events last w (key.Msg k)
    behind_letters k = passed boards last w (key.Msg k) (board_passes_messages (counted w t.outcome.out.publications) k)

    -- a message was sent, or is the last one or an older one
    message_there : (k : MsgId) (f : Message) → message_of world k ≡ Some f → IsLetter e 0 sends k f ⊎ (message_in (cond (same_message m k) (Some (message done_message)) (w (key.Msg k))) ≡ Some f)
    message_there k f is = ⊎_elim inl (λ x. inr (sym (ap message_in (behind_letters k)) ∙ x))
        (letter_there e (boards ++ last) w k f 0 sends (sym (ap message_in (passed (in_world t.vat left) rest w (key.Msg k) (all_pass t.vat left (key.Msg k) (not_message t.vat k)))) ∙ is))

    had : (k : MsgId) (f : Message) (q : Bool) → same_message m k ≡ q → message_in (cond q (Some (message done_message)) (w (key.Msg k))) ≡ Some f → Had w k f
    had k f true i is =
        let one : f ≡ done_message = some_message is in
        record {
          before = t.message;
          there = ap (λ x. message_of w x) (sym (message_equal m k i)) ∙ is_there;
          result = ap (λ (x : Message). x.result) one;
          undone = λ d. absurd (true≢false (ap (λ (x : Message). is_done x.place) (sym one) ∙ d));
        }
    had k f false i is = record { before = f; there = is; result = refl; undone = λ d. d }

    messages : (k : MsgId) (f : Message) → message_of world k ≡ Some f → IsLetter e 0 sends k f ⊎ Had w k f
    messages k f is = ⊎_elim inl (λ x. inr (had k f (same_message m k) refl x)) (message_there k f is)

    -- its message is done
    is_done_now : (f : Message) → message_of world m ≡ Some f → is_done f.place ≡ true
    is_done_now f is = ⊎_elim
        (λ x. absurd (new (subst old (letter_event e 0 sends m f x) (sound.named m t.message is_there).0)))
        (λ x. ap (λ (y : Message). is_done y.place) (some_message {x = done_message} {y = f} (sym (ap (λ b. message_in (cond b (Some (message done_message)) (w (key.Msg m)))) (message_self m)) ∙ x))) (message_there m f is)

    -- ---- resolvers and views

    rest_objects : (i : ObjId) → written events rest w (key.Object i) ≡ w (key.Object i)
    rest_objects i =
        passed letters (boards ++ last) w (key.Object i) (letters_pass_objects e 0 sends i)
        ∙ passed boards last w (key.Object i) (board_passes_objects (counted w t.outcome.out.publications) i)

    rest_views : (v : VatNo) (p : PromId) → written events rest w (key.View v p) ≡ w (key.View v p)
    rest_views v p =
        passed letters (boards ++ last) w (key.View v p) (letters_pass_views e 0 sends v p)
        ∙ passed boards last w (key.View v p) (board_passes_views (counted w t.outcome.out.publications) v p)

    stays : (c : Cell) → list_any (same_cell c) (map (λ p. p.0) left) ≡ false → t.outcome.state c ≡ state c
    stays c i =
        stays_case (is_lost t.outcome.told) (t.written c) (t.outcome.state c ≡ state c) (sym (l.written c) ∙ i)
        (λ q. ap (λ (s : State). s c) (lost_stays h.delivers.0 q)) (λ q. delivery_un h.delivers.0 c (ap (λ (s : Cells). s c) h.delivers.2 ∙ q))

    resolvers : (i : ObjId) (p : PromId) → ResolverAt world i p → ResolverAt w i p ⊎ (IsPaired p × (p.home ≡ i.vat))
    resolvers i p r = ⊎_elim
        (λ x. ⊎_elim (λ y. inl (vat_resolver w t.vat i p y).0) (λ y. inr (y.1, y.1.home ∙ sym y.0)) (turned.resolvers i p x))
        inl (resolver_left w t.vat t.outcome.state rest left l.contents rest_objects i p r)

    -- ---- the board

    board : (p : PromId) → (Publishes p → ⊥) → published_as w p ≡ None → published_as world p ≡ None
    board p none is =
        let others = all_map (λ b. Publishes b.0) (λ b. is_some (published_as w b.0) ≡ false → b.0 ≡ p → ⊥) t.outcome.out.publications (λ b x q same. none (subst Publishes same x)) turned.published in
        ap published_in
        (passed (in_world t.vat left) rest w (key.Board p) (all_pass t.vat left (key.Board p) (not_board t.vat p))
        ∙ passed letters (boards ++ last) w (key.Board p) (letters_pass_boards e 0 sends p)
        ∙ passed boards last w (key.Board p) (board_passes w t.outcome.out.publications p others)) ∙ is

    settled : (p : PromId) → IsSettled p → Resolves w world IsPaired p
    settled p r =
        let home : p.home ≡ t.vat = ⊎_elim (λ y. let z = vat_resolver w t.vat y.0 p y.1 in (sound.resolvers y.0 p z.0).1 ∙ z.1) (λ y. y.home) r.owned in
        record {
          owned = ⊎_elim (λ y. inl (y.0, (vat_resolver w t.vat y.0 p y.1).0)) inr r.owned;
          known = ap (λ v. knows (vat_state world v) p) home ∙ knows_left w t.vat t.outcome.state rest left l.contents stays rest_views p ∙ r.known_now;
        }

    published : (p : PromId) → Publishes p → Resolves w world IsPaired p ⊎ IsResult w world p
    published p x = ⊎_elim (λ same. inr (record { message = m; before = t.message; there = is_there; result = sym same; done = is_done_now })) (λ r. inl (settled p r)) x

    pub turn_happens : Happens e w world (IsLetter e 0 sends) IsPaired Publishes
    turn_happens = record {
      messages = messages;
      sent = λ k f s. (letter_event e 0 sends k f s, (letter_result e 0 0 t.outcome.out.promises sends k f turned.letters s).0, λ x. letter_alone e 0 sends k f f.result x.alone s refl);
      apart = λ k j f g s q same. letter_apart e 0 0 t.outcome.out.promises sends k j f g turned.letters s q same;
      resolvers = resolvers;
      paired = λ p x. x.event;
      views = knows_on w t.vat t.outcome.state rest left l.contents stays rest_views turned.known;
      board = board;
      published = published;
    }
