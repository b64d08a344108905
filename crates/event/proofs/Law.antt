-- Each kind of event obeys the law of undo: it depends on no cell but those that it touches, and does one thing in one world.
use Rattle.std.proofs.Common.{◌≡◌, ℕ, Bool, true, false, cond, not, ◌||◌, ◌&&◌, List, [], ◌∷◌, ◌++◌, map, Option, Some, None, unwrap_or, refl, sym, ap, ap₂, ◌∙◌, subst, append-nil}
use Rattle.std.specs.List.{list_any, AllByRecursion}
use Rattle.std.proofs.lemmas.Bool.{and_parts, or_left, or_right, false≢true}
use Rattle.std.proofs.lemmas.List.Folds.{list_any-append}
use Rattle.history.specs.Subject.{Laws, Agree, Alike, touches, new}
use Rattle.history.proofs.Lists.{all_map, all_both}
use Rattle.ids.specs.CellKeys.{same_key}
use Rattle.ids.specs.declared.names.EventName.{EventName}
use Rattle.ids.specs.declared.names.VatNo.{VatNo}
use Rattle.ids.specs.declared.names.MsgId.{MsgId}
use Rattle.ids.specs.declared.names.PromId.{PromId}
use Rattle.ids.specs.declared.cells.CellKey.{CellKey}
use Rattle.ids.specs.declared.cells.CellKey.TheVariants as key
use Rattle.ids.proofs.CellKeys.{same_exact, same_self}
use Rattle.cells.proofs.Doings.{cells_only_grow, goes_alike}
use Rattle.kernele.specs.Tree.{Name}
use Rattle.heap.specs.State as heap
use Rattle.heap.specs.State.{Cell, Cells, State, same_cell, view_cell}
use Rattle.heap.proofs.Cells.{cell_self}
use Rattle.refs.specs.Walks.{Walk, most_walked}
use Rattle.sends.specs.Vats.{Nothing, resolution_in}
use Rattle.sends.specs.Playing.{views_in}
use Rattle.eval_rules.specs.Laws.{AgreeOn, with_cells}
use Rattle.post.specs.Delivery.{Call, Delivery, opening, asked, sent, waiting}
use Rattle.post.specs.Messages.{Vat, Place, flying, done, waits_at, arrived, Message, Published}
use Rattle.world_cells.specs.Events.{Act, forward, learn, turn, Event, event_in, with_notes}
use Rattle.world_cells.specs.World.{Content, message, World, vat_in, message_in, published_in, cell_content, lives_in, cell_key, published_as, vat_state}
use Rattle.turn_deliveries.specs.Touched.{delivery_touched, delivery_written}
use Rattle.turn_deliveries.specs.Turn.{Found}
use Rattle.turn_deliveries.proofs.Turns.{delivery_same, delivery_framed, SameCells, delivery_cells}
use Rattle.event.specs.Events.{Foot, AreNamed, birth_foot, ask_foot, moved_foot, goes_on, Leaves, in_world, learning, untouched, learnt, learn_foot, is_lost, DeliversOn, Turn, Turns, TurnLeaves, letters_from, on_the_board, counted, made_by, turn_reads, turn_foot, Does, births, asks, arrives, forwards, learns, turns, notes_of, DoesNoted, events, noted_events}
use Rattle.event.specs.Ready.{first_undone}
use Rattle.event.specs.Walks.{board_walk, looked_up, awaited, found_by, delivery_walk, may_end, ends_there, is_known}
use Rattle.event.proofs.Listing.{all_front, all_rest, keys_alike, at_cell, any_write, behind_writes, found_alike, found_before}
use Rattle.event.proofs.Reaching.{viewed_by, delivery_viewed, learning_viewed}
use Rattle.event.proofs.Walking.{AgreeAlong, SameBoard, same_board, walks_alike, board_alike, looked_alike, awaited_alike, found_by_alike, undone_alike, counted_alike, new_alike}

-- ---- cells of a vat

-- worlds that agree on the keys of a set's cells have vats that agree on the set
vat_alike : (vat : VatNo) (cells : List Cell) (w v : World) → AllByRecursion (λ k. v k ≡ w k) (map (cell_key vat) cells)
    → (c : Cell) → list_any (same_cell c) cells ≡ true → vat_state v vat c ≡ vat_state w vat c
vat_alike vat cells w v a c h = ap (λ (o : Option Content). cond (lives_in c vat) (cell_content o) None) (at_cell vat (λ k. v k ≡ w k) cells a c h)

-- each of a list's cells is in it
each_listed : (left : List (Cell × heap.Content)) → AllByRecursion (λ p. list_any (same_cell p.0) (map (λ p. p.0) left) ≡ true) left
each_listed [] = tt
each_listed (p ∷ left) = (or_left _ _ (cell_self p.0), all_map _ _ left (λ q h. or_right (same_cell q.0 p.0) _ h) (each_listed left))

-- what one state holds in the cells that were written another one holds there, if they agree on them
left_alike : (touched written : Cells) (s u : State) (cells : List Cell) (left : List (Cell × heap.Content)) → Leaves touched written s cells left → ((c : Cell) → written c ≡ true → u c ≡ s c) → Leaves touched written u cells left
left_alike touched written s u cells left h same = record {
  touched = h.touched;
  written = h.written;
  contents = all_both _ _ _ left (λ p is there. same p.0 (sym (h.written p.0) ∙ there) ∙ is) h.contents (each_listed left);
}

-- footprints that list the same cells of a vat, in whatever order, are alike
vat_feet : (v : VatNo) (before : List CellKey) (behind : List (CellKey × Content)) (touched written : Cells) (s : State) (cells others : List Cell) (left more : List (Cell × heap.Content))
    → Leaves touched written s cells left → Leaves touched written s others more
    → Alike events (record { reads = before ++ map (cell_key v) cells; writes = in_world v left ++ behind }) (record { reads = before ++ map (cell_key v) others; writes = in_world v more ++ behind })
vat_feet v before behind touched written s cells others left more h g = record { touch = touch; write = write }
  where
    foot : List Cell → List (Cell × heap.Content) → Foot
    foot cs ws = record { reads = before ++ map (cell_key v) cs; writes = in_world v ws ++ behind }

    listed : (k : CellKey) (cs : List Cell) (ws : List (Cell × heap.Content)) → touches events (record { reads = before ++ map (cell_key v) cs; writes = in_world v ws ++ behind }) k
        ≡ ((list_any (same_key k) before || list_any (same_key k) (map (cell_key v) cs))
        || (list_any (same_key k) (map (cell_key v) (map (λ p. p.0) ws)) || list_any (same_key k) (map (λ p. p.0) behind)))
    listed k cs ws =
        list_any-append (same_key k) (before ++ map (cell_key v) cs) _
        ∙ ap₂ (λ a b. a || b) (list_any-append (same_key k) before _) (any_write v (same_key k) ws behind)

    same_left : (c : Cell) → list_any (same_cell c) (map (λ p. p.0) left) ≡ list_any (same_cell c) (map (λ p. p.0) more)
    same_left c = h.written c ∙ sym (g.written c)

    touch : (k : CellKey) → touches events (record { reads = before ++ map (cell_key v) cells; writes = in_world v left ++ behind }) k ≡ touches events (record { reads = before ++ map (cell_key v) others; writes = in_world v more ++ behind }) k
    touch k =
        listed k cells left
        ∙ ap₂ (λ a b. (list_any (same_key k) before || a) || (b || list_any (same_key k) (map (λ p. p.0) behind)))
        (keys_alike v cells others (λ c. h.touched c ∙ sym (g.touched c)) k) (keys_alike v (map (λ p. p.0) left) (map (λ p. p.0) more) same_left k)
        ∙ sym (listed k others more)

    write : (k : CellKey) → new events (record { reads = before ++ map (cell_key v) cells; writes = in_world v left ++ behind }) k ≡ new events (record { reads = before ++ map (cell_key v) others; writes = in_world v more ++ behind }) k
    write k = found_before v left more behind k (found_alike v s left more h.contents g.contents same_left k)

-- a footprint is like itself
same_foot : (f : Foot) → Alike events f f
same_foot f = record { touch = λ k. refl; write = λ k. refl }

-- ---- births and messages on their way

-- the names of earlier vats stand for the same vats
named_alike : (w v : World) (xs : List Name) (vats : List Vat) → AllByRecursion (λ k. v k ≡ w k) (map key.Name xs) → AreNamed w xs vats → AreNamed v xs vats
named_alike w v [] [] a h = tt
named_alike w v [] (u ∷ us) a h = absurd h
named_alike w v (x ∷ xs) [] a h = absurd h
named_alike w v (x ∷ xs) (u ∷ us) a h = (ap vat_in a.0 ∙ h.0, named_alike w v xs us a.1 h.1)

named_once : (w : World) (xs : List Name) (vats us : List Vat) → AreNamed w xs vats → AreNamed w xs us → vats ≡ us
named_once w [] [] [] h g = refl
named_once w [] [] (u ∷ us) h g = absurd g
named_once w [] (v ∷ vs) us h g = absurd h
named_once w (x ∷ xs) [] us h g = absurd h
named_once w (x ∷ xs) (v ∷ vs) [] h g = absurd g
named_once w (x ∷ xs) (v ∷ vs) (u ∷ us) h g =
    let e : v ≡ u = ap (λ (o : Option Vat). unwrap_or o v) (sym h.0 ∙ g.0) in
    ap₂ (λ a b. a ∷ b) e (named_once w xs vs us h.1 g.1)

-- ---- what a vat learns

-- behind what is learnt in another world that agrees on the cells touched, the same cells are touched and written, and those hold the same
learnt_alike : (v : VatNo) (p : PromId) (b : Published) (cells : List Cell) (left : List (Cell × heap.Content)) (w u : World) → Leaves (learnt w v p b).touched (learnt w v p b).written (learnt w v p b).state cells left
    → AllByRecursion (λ k. u k ≡ w k) (map (cell_key v) cells) → Leaves (learnt u v p b).touched (learnt u v p b).written (learnt u v p b).state cells left
learnt_alike v p b cells left w u h a =
    let s = vat_state w v in
    let x = vat_state u v in
    let d = learning p b in
    let agree : (c : Cell) → (learnt w v p b).touched c ≡ true → x c ≡ s c = λ c is. vat_alike v cells w u a c (h.touched c ∙ is) in
    let same = goes_alike Cell heap.Content Nothing same_cell cell_self d (untouched s) x agree in
    let within = (cells_only_grow Cell heap.Content Nothing same_cell d (untouched s)).within (λ c e. e) in
    subst (λ (q : Cells). Leaves q (learnt u v p b).written (learnt u v p b).state cells left) (sym same.touched)
    (subst (λ (q : Cells). Leaves (learnt w v p b).touched q (learnt u v p b).state cells left) (sym same.written)
    (left_alike (learnt w v p b).touched (learnt w v p b).written (learnt w v p b).state (learnt u v p b).state cells left h (λ c is. same.kept c (agree c (within c is)))))

law_of_learning : (e : EventName) (v : VatNo) (p : PromId) (b : Published) (cells : List Cell) (left : List (Cell × heap.Content)) (w u : World) → vat_state w v (view_cell p) ≡ Some (heap.viewed heap.pending) → published_as w p ≡ Some b
    → Leaves (learnt w v p b).touched (learnt w v p b).written (learnt w v p b).state cells left → Agree events (learn_foot v p cells left) w u → DoesNoted (record { name = e; act = learn v p; notes = [] }) u (learn_foot v p cells left)
law_of_learning e v p b cells left w u waits is h a =
    let Q = λ (k : CellKey). u k ≡ w k in
    let here = all_front Q (map (cell_key v) cells) _ a.1 in (
      learns
          (vat_alike v cells w u here (view_cell p) (h.touched (view_cell p) ∙ learning_viewed (vat_state w v) p b) ∙ waits)
          (ap published_in a.0 ∙ is)
          (learnt_alike v p b cells left w u h here),
      refl,
    )

-- ---- turns

-- a delivery may begin where it might in a world that agrees on what it leads through
leads_alike : (w v : World) (vat : VatNo) (d : Delivery) → SameBoard w v (looked_up w d) → AgreeAlong (views_in (vat_state w vat)) (views_in (vat_state v vat)) (viewed_by (vat_state w vat) d)
    → may_end vat d (delivery_walk v vat d).end ≡ may_end vat d (delivery_walk w vat d).end
leads_alike w v vat (sent c) a h = ap (λ (x : Walk). ends_there vat x.end) (board_alike w v c.target a)
leads_alike w v vat (waiting b) a h = ap (λ (x : Walk). is_known x.end) (walks_alike most_walked (views_in (vat_state w vat)) (views_in (vat_state v vat)) [] b.value h)
leads_alike w v vat (opening earlier ts) a h = refl
leads_alike w v vat (asked ts) a h = refl

-- what holds of what is mapped holds of what its front and its rest are mapped to
mapped_front : {A B : Type 0} (f : A → B) (P : B → Type 0) (xs ys : List A) → AllByRecursion P (map f (xs ++ ys)) → AllByRecursion P (map f xs)
mapped_front f P [] ys h = tt
mapped_front f P (x ∷ xs) ys h = (h.0, mapped_front f P xs ys h.1)

mapped_rest : {A B : Type 0} (f : A → B) (P : B → Type 0) (xs ys : List A) → AllByRecursion P (map f (xs ++ ys)) → AllByRecursion P (map f ys)
mapped_rest f P [] ys h = h
mapped_rest f P (x ∷ xs) ys h = mapped_rest f P xs ys h.1

-- where all that is left was written, another state that has the written cells of the first holds it too
written_there : (written : Cells) (s u : State) (c : Cell) → written c ≡ true → with_cells written s u c ≡ s c
written_there written s u c w = ap (λ b. cond b (s c) (u c)) w

-- a turn is possible, has the same footprint, and makes the same notes, in each world that agrees on the cells that it touches
law_of_turns : (e : EventName) (m : MsgId) (n : ℕ) (t : Turn) (cells : List Cell) (left : List (Cell × heap.Content)) (w v : World)
    → Turns e w m n t → TurnLeaves t cells left → Agree events (turn_foot e w m t cells left) w v → DoesNoted (record { name = e; act = turn t.vat m n; notes = t.outcome.out.notes }) v (turn_foot e w m t cells left)
law_of_turns e m n t cells left w v h g a =
    let Q = λ (k : CellKey). v k ≡ w k in
    let d = t.message.delivery in
    let boards = map key.Board (looked_up w d) in
    let messages = map key.Msg (awaited w t.message) in
    let reads = all_front Q (turn_reads w t ++ map (cell_key t.vat) cells) _ a in
    let before = all_front Q (turn_reads w t) _ reads in
    let here = all_rest Q (turn_reads w t) _ reads in
    let made = behind_writes t.vat Q left (made_by e w m t.message t.outcome) (all_rest Q (turn_reads w t ++ map (cell_key t.vat) cells) _ a) in
    let letters = letters_from e 0 t.outcome.out.letters in
    let last = mapped_rest (λ p. p.0) Q (on_the_board (counted w t.outcome.out.publications)) _ (mapped_rest (λ p. p.0) Q letters _ made) in
    let board = same_board w v (looked_up w d) (all_front Q boards _ before) in
    let others = all_rest Q boards _ before in
    let s = vat_state w t.vat in
    let u = vat_state v t.vat in
    let r = h.delivers.0 in
    let agree : AgreeOn (delivery_touched r) u s = λ c is. vat_alike t.vat cells w v here c (g.touched c ∙ sym (ap (λ (q : Cells). q c) h.delivers.1) ∙ is) in
    let framed = delivery_framed r u agree in
    let after : State = with_cells (delivery_written r) t.outcome.state u in
    let there : (c : Cell) → (not (is_lost t.outcome.told) && t.written c) ≡ true → after c ≡ t.outcome.state c =
    λ c is. written_there (delivery_written r) t.outcome.state u c (ap (λ (q : Cells). q c) h.delivers.2 ∙ (and_parts (not (is_lost t.outcome.told)) (t.written c) is).1) in
    let looked = looked_alike w v d board in
    let order = awaited_alike w v t.message board in
    let counts = counted_alike w v t.outcome.out.publications (all_rest Q messages _ others) in
    let ahead : Turn = record t { outcome = record t.outcome { state = after } } in
    let foot : turn_foot e v m ahead cells left ≡ turn_foot e w m t cells left =
    λ i. record {
      reads = (map key.Board (looked i) ++ (map key.Msg (order i) ++ map (λ b. key.Board b.0) t.outcome.out.publications)) ++ map (cell_key t.vat) cells;
      writes = in_world t.vat left ++ (letters ++ (on_the_board (counts i) ++ (key.Msg m, message (record t.message { place = done e })) ∷ []));
    } in
    subst (DoesNoted (record { name = e; act = turn t.vat m n; notes = t.outcome.out.notes }) v) foot (
      turns {t = ahead}
          (record {
            waiting = last.0 ∙ h.waiting;
            there = h.there;
            leads = leads_alike w v t.vat d board (all_map _ _ (viewed_by s d) (λ p is. ap resolution_in (agree (view_cell p) is)) (delivery_viewed r)) ∙ h.leads;
            in_order = ap (first_undone v) order ∙ undone_alike w v (awaited w t.message) (all_front Q messages _ others) ∙ h.in_order;
            delivers = subst (λ (f : Found). DeliversOn t.message f e t.vat u n ahead.outcome t.touched t.written) (sym (found_by_alike w v d board)) (framed.0, framed.1 ∙ h.delivers.1, framed.2 ∙ h.delivers.2);
            fresh = new_alike w v letters (mapped_front (λ p. p.0) Q letters _ made) h.fresh;
          })
          (left_alike t.touched (λ c. not (is_lost t.outcome.told) && t.written c) t.outcome.state after cells left g there),
      refl,
    )

-- ---- all events

-- an event depends on no cell but those that it touches, and makes the same notes
law : (e : Event) (w : World) (f : Foot) (v : World) (d : Does e w f) → Agree events f w v → DoesNoted (with_notes e (notes_of d)) v f
law e w f v (births {x = x} {earlier = xs} vats h n) a =
    let Q = λ (k : CellKey). v k ≡ w k in
    (births vats ((all_rest Q (map key.Name xs) _ a).0 ∙ h) (named_alike w v xs vats (all_front Q (map key.Name xs) _ a) n), refl)
law e w f v (asks h) a = (asks (ap vat_in a.0 ∙ h), refl)
law e w f v (arrives h g) a = (arrives (ap message_in a.0 ∙ h) g, refl)
law e w f v (forwards {e = n} {m = m} {g = g} {c = c} {v = here} {u = u} h at is to) a =
    let Q = λ (k : CellKey). v k ≡ w k in
    let through = (board_walk w c.target).through in
    let board = same_board w v through (all_front Q (map key.Board through) _ a) in
    let walk = board_alike w v c.target board in
    subst (DoesNoted (record { name = n; act = forward m; notes = [] }) v) (ap (λ (x : Walk). moved_foot (map key.Board x.through) m (record g { place = flying u })) walk)
    (forwards (ap message_in (all_rest Q (map key.Board through) _ a).0 ∙ h) at is (ap (λ (x : Walk). goes_on here x.end) walk ∙ to), refl)
law e w f v (learns {e = n} {v = here} {p = p} {b = b} {cells = cells} {left = left} h is l) a = law_of_learning n here p b cells left w v h is l a
law e w f v (turns {e = n} {m = m} {budget = b} {t = t} {cells = cells} {left = left} h g) a = law_of_turns n m b t cells left w v h g a

-- ---- one event does one thing

-- the message that a cell holds, or another one where it holds none
abbrev message_or : Message → Option Content → Message
message_or g o = unwrap_or (message_in o) g

-- the vat where a message is, or another one where it is at none
abbrev vat_or : VatNo → Place → VatNo
vat_or d p = unwrap_or (waits_at p) d

-- a message has one turn at an event
one_turn : (e : EventName) (w : World) (m : MsgId) (n : ℕ) (t u : Turn) → Turns e w m n t → Turns e w m n u → t ≡ u
one_turn e w m n t u h k =
    let g : t.message ≡ u.message = ap (message_or t.message) (sym h.waiting ∙ k.waiting) in
    let v : t.vat ≡ u.vat = ap (vat_or t.vat) (sym h.there ∙ ap (λ (x : Message). x.place) g ∙ k.there) in
    let one : DeliversOn u.message (found_by w u.message.delivery) e u.vat (vat_state w u.vat) n t.outcome t.touched t.written =
    subst (λ (r : VatNo). DeliversOn u.message (found_by w u.message.delivery) e r (vat_state w r) n t.outcome t.touched t.written) v
    (subst (λ (r : Message). DeliversOn r (found_by w r.delivery) e t.vat (vat_state w t.vat) n t.outcome t.touched t.written) g h.delivers) in
    let o : t.outcome ≡ u.outcome = delivery_same one.0 k.delivers.0 in
    let cells : SameCells one.0 k.delivers.0 = delivery_cells one.0 k.delivers.0 in
    let touched : t.touched ≡ u.touched = sym one.1 ∙ cells.0 ∙ k.delivers.1 in
    let written : t.written ≡ u.written = sym one.2 ∙ cells.1 ∙ k.delivers.2 in
    λ i. record { message = g i; vat = v i; outcome = o i; touched = touched i; written = written i }

-- one turn's footprints are alike, in whatever order they list its cells
feet_alike : (e : EventName) (w : World) (m : MsgId) (t : Turn) (cells others : List Cell) (left more : List (Cell × heap.Content)) → TurnLeaves t cells left → TurnLeaves t others more
    → Alike events (turn_foot e w m t cells left) (turn_foot e w m t others more)
feet_alike e w m t cells others left more h g =
    vat_feet t.vat (turn_reads w t) (made_by e w m t.message t.outcome) t.touched (λ c. not (is_lost t.outcome.told) && t.written c) t.outcome.state cells others left more h g

-- so are those of what a vat learns
learnt_feet : (w : World) (v : VatNo) (p : PromId) (b : Published) (cells others : List Cell) (left more : List (Cell × heap.Content))
    → Leaves (learnt w v p b).touched (learnt w v p b).written (learnt w v p b).state cells left → Leaves (learnt w v p b).touched (learnt w v p b).written (learnt w v p b).state others more
    → Alike events (learn_foot v p cells left) (learn_foot v p others more)
learnt_feet w v p b cells others left more h g =
    let foot : List Cell → List (CellKey × Content) → Foot = λ cs ws. record { reads = key.Board p ∷ map (cell_key v) cs; writes = ws } in
    subst (λ (xs : List (CellKey × Content)). Alike events (foot cells xs) (foot others (in_world v more))) (append-nil (in_world v left))
    (subst (λ (ys : List (CellKey × Content)). Alike events (foot cells (in_world v left ++ [])) (foot others ys)) (append-nil (in_world v more))
    (vat_feet v (key.Board p ∷ []) [] (learnt w v p b).touched (learnt w v p b).written (learnt w v p b).state cells others left more h g))

-- whether an act is a turn; the message that it delivers, and its budget, or other ones where it is none
abbrev pub is_turn : Act → Bool
is_turn (turn v m n) = true
is_turn _ = false

abbrev delivered_or : MsgId → Act → MsgId
delivered_or k (turn v m n) = m
delivered_or k _ = k

abbrev budget_or : ℕ → Act → ℕ
budget_or b (turn v m n) = n
budget_or b _ = b

-- a turn of a message at a vat does one thing in one world
turn_once : (e : EventName) (w : World) (m : MsgId) (n : ℕ) (t : Turn) (cells : List Cell) (left : List (Cell × heap.Content)) → Turns e w m n t → TurnLeaves t cells left
    → (d : Event) (g : Foot) → Does d w g → d ≡ record { name = e; act = turn t.vat m n } → Alike events (turn_foot e w m t cells left) g
turn_once e w m n t cells left h i d g (births us k r) is = absurd (false≢true (ap (λ (x : Event). is_turn x.act) is))
turn_once e w m n t cells left h i d g (asks k) is = absurd (false≢true (ap (λ (x : Event). is_turn x.act) is))
turn_once e w m n t cells left h i d g (arrives k r) is = absurd (false≢true (ap (λ (x : Event). is_turn x.act) is))
turn_once e w m n t cells left h i d g (forwards k r l o) is = absurd (false≢true (ap (λ (x : Event). is_turn x.act) is))
turn_once e w m n t cells left h i d g (learns k r l) is = absurd (false≢true (ap (λ (x : Event). is_turn x.act) is))
turn_once e w m n t cells left h i d g (turns {e = a} {m = k} {budget = b} {t = u} {cells = others} {left = more} q j) is =
    let named : a ≡ e = ap (λ (x : Event). x.name) is in
    let delivered : k ≡ m = ap (λ (x : Event). delivered_or k x.act) is in
    let given : b ≡ n = ap (λ (x : Event). budget_or b x.act) is in
    let at_event : Turns e w k b u = subst (λ (x : EventName). Turns x w k b u) named q in
    let at_message : Turns e w m b u = subst (λ (x : MsgId). Turns e w x b u) delivered at_event in
    let same : t ≡ u = one_turn e w m n t u h (subst (λ (x : ℕ). Turns e w m x u) given at_message) in
    subst (λ (x : EventName). Alike events (turn_foot e w m t cells left) (turn_foot x w k u others more)) (sym named)
    (subst (λ (x : MsgId). Alike events (turn_foot e w m t cells left) (turn_foot e w x u others more)) (sym delivered)
    (subst (λ (x : Turn). Alike events (turn_foot e w m t cells left) (turn_foot e w m x others more)) same
    (feet_alike e w m t cells others left more i (subst (λ (x : Turn). TurnLeaves x others more) (sym same) j))))

-- the other vat to which a call goes on, if it does
abbrev to_in : World → VatNo → Delivery → Option VatNo
to_in w v (sent c) = goes_on v (board_walk w c.target).end
to_in w v d = None

-- a message that goes on does so in one way
forward_once : (w : World) (m : MsgId) (g h : Message) (c d : Call) (v u x y : VatNo) → g ≡ h → waits_at g.place ≡ Some v → waits_at h.place ≡ Some u → g.delivery ≡ sent c → h.delivery ≡ sent d
    → goes_on v (board_walk w c.target).end ≡ Some x → goes_on u (board_walk w d.target).end ≡ Some y
    → moved_foot (map key.Board (board_walk w c.target).through) m (record g { place = flying x }) ≡ moved_foot (map key.Board (board_walk w d.target).through) m (record h { place = flying y })
forward_once w m g h c d v u x y same at there is also goes to =
    let one : v ≡ u = ap (λ (o : Option VatNo). unwrap_or o v) (sym at ∙ ap (λ (k : Message). waits_at k.place) same ∙ there) in
    let calls : sent c ≡ sent d = sym is ∙ ap (λ (k : Message). k.delivery) same ∙ also in
    let ends : x ≡ y = ap (λ (o : Option VatNo). unwrap_or o x) (sym goes ∙ ap (to_in w v) calls ∙ ap (λ k. to_in w k (sent d)) one ∙ to) in
    let through : (board_walk w c.target).through ≡ (board_walk w d.target).through = ap (looked_up w) calls in
    λ i. moved_foot (map key.Board (through i)) m (record (same i) { place = flying (ends i) })

-- an event does one thing in one world
once : (e : Event) (w : World) (f g : Foot) → Does e w f → Does e w g → Alike events f g
once e w f g (births {e = n} {x = x} {earlier = xs} vats {script = ts} h a) (births us k b) =
    subst (Alike events f) (ap (λ (q : List Vat). birth_foot n x xs q ts) (named_once w xs vats us a b)) (same_foot f)
once e w f g (asks {e = n} {x = x} {program = p} {v = v} h) (asks {v = u} k) =
    subst (Alike events f) (ap (λ (y : Vat). ask_foot n x y.number p) (ap (λ (o : Option Vat). unwrap_or o v) (sym h ∙ k))) (same_foot f)
once e w f g (arrives {m = m} {g = a} {h = x} h i) (arrives {g = b} {h = y} k j) =
    let one : a ≡ b = ap (λ (o : Option Message). unwrap_or o a) (sym h ∙ k) in
    let to : x ≡ y = ap (λ (o : Option Message). unwrap_or o x) (sym i ∙ ap arrived one ∙ j) in
    subst (Alike events f) (ap (moved_foot [] m) to) (same_foot f)
once e w f g (forwards {m = m} {g = a} {c = c} {v = v} {u = u} h at is to) (forwards {g = b} {c = d} {v = x} {u = y} k there also goes) =
    let one : a ≡ b = ap (λ (o : Option Message). unwrap_or o a) (sym h ∙ k) in
    subst (Alike events f) (forward_once w m a b c d v x u y one at there is also to goes) (same_foot f)
once e w f g (learns {v = v} {p = p} {b = b} {cells = cells} {left = left} h is l) (learns {b = c} {cells = others} {left = more} k also i) =
    let one : c ≡ b = ap (λ (o : Option Published). unwrap_or o c) (sym also ∙ is) in
    learnt_feet w v p b cells others left more l (subst (λ (x : Published). Leaves (learnt w v p x).touched (learnt w v p x).written (learnt w v p x).state others more) one i)
once e w f g (turns {e = n} {m = m} {budget = b} {t = t} {cells = cells} {left = left} h i) d = turn_once n w m b t cells left h i e g d refl

-- and makes the same notes
turn_notes : (e : EventName) (w : World) (m : MsgId) (n : ℕ) (t : Turn) → Turns e w m n t → (d : Event) (g : Foot) (c : Does d w g) → d ≡ record { name = e; act = turn t.vat m n } → notes_of c ≡ t.outcome.out.notes
turn_notes e w m n t h d g (births us k r) is = absurd (false≢true (ap (λ (x : Event). is_turn x.act) is))
turn_notes e w m n t h d g (asks k) is = absurd (false≢true (ap (λ (x : Event). is_turn x.act) is))
turn_notes e w m n t h d g (arrives k r) is = absurd (false≢true (ap (λ (x : Event). is_turn x.act) is))
turn_notes e w m n t h d g (forwards k r l o) is = absurd (false≢true (ap (λ (x : Event). is_turn x.act) is))
turn_notes e w m n t h d g (learns k r l) is = absurd (false≢true (ap (λ (x : Event). is_turn x.act) is))
turn_notes e w m n t h d g (turns {e = a} {m = k} {budget = b} {t = u} q j) is =
    let at_event : Turns e w k b u = subst (λ (x : EventName). Turns x w k b u) (ap (λ (x : Event). x.name) is) q in
    let at_message : Turns e w m b u = subst (λ (x : MsgId). Turns e w x b u) (ap (λ (x : Event). delivered_or k x.act) is) at_event in
    let same : t ≡ u = one_turn e w m n t u h (subst (λ (x : ℕ). Turns e w m x u) (ap (λ (x : Event). budget_or b x.act) is) at_message) in
    ap (λ (x : Turn). x.outcome.out.notes) (sym same)

pub notes_once : (e : Event) (w : World) (f g : Foot) (d : Does e w f) (c : Does e w g) → notes_of d ≡ notes_of c
notes_once e w f g (births vats h a) (births us k b) = refl
notes_once e w f g (asks h) (asks k) = refl
notes_once e w f g (arrives h i) (arrives k j) = refl
notes_once e w f g (forwards h at is to) (forwards k there also goes) = refl
notes_once e w f g (learns h is l) (learns k also i) = refl
notes_once e w f g (turns {e = n} {m = m} {budget = b} {t = t} h i) c = sym (turn_notes n w m b t h e g c refl)

-- events alone can be run and undone
pub events_laws : Laws events
events_laws = record { same_exact = same_exact; same_self = same_self; law = λ e f w v h a. (law e w f v h a).0; once = once }

-- the events of a book can be undone, with their notes
pub noted_laws : Laws noted_events
noted_laws = record {
  same_exact = same_exact;
  same_self = same_self;
  law = λ n f w v h a. let k = law (event_in n) w f v h.0 a in (k.0, k.1 ∙ h.1);
  once = λ n w f g h k. let same = once (event_in n) w f g h.0 k.0 in record { touch = same.touch; write = same.write };
}
