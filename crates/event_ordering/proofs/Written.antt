-- What is read of fences, of messages and of publications in a world after writes.
use Rattle.std.proofs.Common.{◌≡◌, ℕ, ◌+◌, ◌<◌, Bool, true, false, cond, not, ◌||◌, ◌&&◌, List, [], ◌∷◌, ◌++◌, map, Option, Some, None, is_some, true≢false, refl, sym, ap, ◌∙◌, subst, arith, append-nil}
use Rattle.std.specs.List.{list_any, AllByRecursion}
use Rattle.history.specs.Subject.{written}
use Rattle.ids.specs.CellKeys.{same_key}
use Rattle.ids.specs.References.{same_reference}
use Rattle.ids.specs.declared.names.EventName.{EventName}
use Rattle.ids.specs.declared.names.VatNo.{VatNo}
use Rattle.ids.specs.declared.names.MsgId.{MsgId}
use Rattle.ids.specs.declared.names.PromId.{PromId}
use Rattle.ids.specs.declared.reference.Reference.{Reference}
use Rattle.ids.specs.declared.cells.CellKey.{CellKey}
use Rattle.ids.specs.declared.cells.CellKey.TheVariants as key
use Rattle.ids.proofs.CellKeys.{same_exact as key_exact, same_self as key_self}
use Rattle.ids.proofs.Keys.{equal, exact_promises}
use Rattle.ids.specs.Cells.{promise_cmp}
use Rattle.std.specs.Ordering.{is_eq}
use Rattle.eorder.specs.Fences.{member}
use Rattle.eorder.specs.Places.{published as in_publication, same_message, same_vat}
use Rattle.eorder.proofs.Places.{message_equal}
use Rattle.heap.specs.State as heap
use Rattle.heap.specs.State.{Cell, top, slot_cell, object_cell, view_cell, fence_cell, same_cell, State}
use Rattle.heap.proofs.Cells.{cell_exact}
use Rattle.post.specs.Delivery.{Delivery}
use Rattle.post.specs.Messages.{Message, Published, is_done, done_in}
use Rattle.sends.specs.Vats.{names_of, names_for}
use Rattle.world_cells.specs.World.{Content, message, published, World, content_of, cell_key, message_in, published_in, published_as}
use Rattle.event.specs.Events.{events, in_world, letters_from, on_the_board, counted}
use Rattle.event_ordering.specs.Deeds.{fence_in, was_published}
use Rattle.event_ordering.specs.Reading.{numbered, publication_in, publication_fences}
use Rattle.event_ordering.proofs.Readings.{or_false}

-- writes
abbrev pub Writes : Type 0
Writes = List (CellKey × Content)

-- none of these cells is written
abbrev pub Passes : CellKey → Writes → Type 0
Passes k ps = AllByRecursion (λ p. same_key p.0 k ≡ false) ps

pub passed : (ps rest : Writes) (w : World) (k : CellKey) → Passes k ps → written events (ps ++ rest) w k ≡ written events rest w k
passed [] rest w k h = refl
passed (p ∷ ps) rest w k h = ap (λ b. cond b (Some p.1) (written events (ps ++ rest) w k)) h.0 ∙ passed ps rest w k h.1

pub all_pass : (v : VatNo) (left : List (Cell × heap.Content)) (k : CellKey) → ((c : Cell) → same_key (cell_key v c) k ≡ false) → Passes k (in_world v left)
all_pass v [] k h = tt
all_pass v (p ∷ left) k h = (h p.0, all_pass v left k h)

pub not_message : (v : VatNo) (n : MsgId) (c : Cell) → same_key (cell_key v c) (key.Msg n) ≡ false
not_message v n (top x) = refl
not_message v n (slot_cell s) = refl
not_message v n (object_cell i) = refl
not_message v n (view_cell p) = refl
not_message v n (fence_cell r) = refl

pub not_board : (v : VatNo) (q : PromId) (c : Cell) → same_key (cell_key v c) (key.Board q) ≡ false
not_board v q (top x) = refl
not_board v q (slot_cell s) = refl
not_board v q (object_cell i) = refl
not_board v q (view_cell p) = refl
not_board v q (fence_cell r) = refl

pub not_fence : (v u : VatNo) (r : Reference) → same_vat v u ≡ false → (c : Cell) → same_key (cell_key v c) (key.Fence u r) ≡ false
not_fence v u r h (top x) = refl
not_fence v u r h (slot_cell s) = refl
not_fence v u r h (object_cell i) = refl
not_fence v u r h (view_cell p) = refl
not_fence v u r h (fence_cell t) = ap (λ b. b && same_reference t r) h

pub letters_pass_fences : (e : EventName) (i : ℕ) (ls : List (MsgId × Message)) (v : VatNo) (r : Reference) → Passes (key.Fence v r) (letters_from e i ls)
letters_pass_fences e i [] v r = tt
letters_pass_fences e i (l ∷ ls) v r = (refl, letters_pass_fences e (i + 1) ls v r)

pub letters_pass_boards : (e : EventName) (i : ℕ) (ls : List (MsgId × Message)) (q : PromId) → Passes (key.Board q) (letters_from e i ls)
letters_pass_boards e i [] q = tt
letters_pass_boards e i (l ∷ ls) q = (refl, letters_pass_boards e (i + 1) ls q)

pub board_passes_fences : (bs : List (PromId × Published)) (v : VatNo) (r : Reference) → Passes (key.Fence v r) (on_the_board bs)
board_passes_fences [] v r = tt
board_passes_fences (b ∷ bs) v r = (refl, board_passes_fences bs v r)

pub board_passes_messages : (bs : List (PromId × Published)) (n : MsgId) → Passes (key.Msg n) (on_the_board bs)
board_passes_messages [] n = tt
board_passes_messages (b ∷ bs) n = (refl, board_passes_messages bs n)

-- ---- fences of the vat

names_there : (y : heap.Content) → names_of (Some y) ≡ fence_in (Some (content_of y))
names_there (heap.bound b) = refl
names_there (heap.held v) = refl
names_there (heap.made o) = refl
names_there (heap.viewed k) = refl
names_there (heap.fenced f) = refl

is_false : (b : Bool) → (b ≡ true → ⊥) → b ≡ false
is_false true h = absurd (h refl)
is_false false h = refl

-- the key of a fence of the vat is no other cell's
fence_key : (v : VatNo) (r : Reference) (c : Cell) → same_key (cell_key v c) (key.Fence v r) ≡ true → c ≡ fence_cell r
fence_key v r (fence_cell t) h = let e : key.Fence v t ≡ key.Fence v r = key_exact (key.Fence v t) (key.Fence v r) h in cc
fence_key v r (top x) h = absurd (true≢false (sym h))
fence_key v r (slot_cell s) h = absurd (true≢false (sym h))
fence_key v r (object_cell i) h = absurd (true≢false (sym h))
fence_key v r (view_cell p) h = absurd (true≢false (sym h))

pub fences_left : (v : VatNo) (s : State) (r : Reference) (rest : Writes) (w : World) (left : List (Cell × heap.Content)) → AllByRecursion (λ p. s p.0 ≡ Some p.1) left
    → (list_any (same_cell (fence_cell r)) (map (λ p. p.0) left) ≡ false → names_of (s (fence_cell r)) ≡ fence_in (written events rest w (key.Fence v r)))
    → fence_in (written events (in_world v left ++ rest) w (key.Fence v r)) ≡ names_of (s (fence_cell r))
fences_left v s r rest w [] a h = sym (h refl)
fences_left v s r rest w (p ∷ left) a h = go (same_key (cell_key v p.0) (key.Fence v r)) refl (fences_left v s r rest w left a.1)
  where
    go : (q : Bool) → same_key (cell_key v p.0) (key.Fence v r) ≡ q
        → ((list_any (same_cell (fence_cell r)) (map (λ p. p.0) left) ≡ false → names_of (s (fence_cell r)) ≡ fence_in (written events rest w (key.Fence v r))) → fence_in (written events (in_world v left ++ rest) w (key.Fence v r)) ≡ names_of (s (fence_cell r)))
        → fence_in (cond q (Some (content_of p.1)) (written events (in_world v left ++ rest) w (key.Fence v r))) ≡ names_of (s (fence_cell r))
    go true e k = sym (names_there p.1) ∙ ap names_of (sym a.0) ∙ ap (λ c. names_of (s c)) (fence_key v r p.0 e)
    go false e k = k (λ n. h (ap (λ b. b || list_any (same_cell (fence_cell r)) (map (λ p. p.0) left)) (other e) ∙ n))
      where
        other : same_key (cell_key v p.0) (key.Fence v r) ≡ false → same_cell (fence_cell r) p.0 ≡ false
        other e = is_false (same_cell (fence_cell r) p.0) (λ t. true≢false (sym (key_self (key.Fence v r)) ∙ ap (λ c. same_key (cell_key v c) (key.Fence v r)) (cell_exact (fence_cell r) p.0 t) ∙ e))

-- ---- messages

-- a question about what a message delivers and comes after
abbrev pub asked_of : (Delivery → List MsgId → Bool) → Option Message → Bool
asked_of g None = false
asked_of g (Some x) = g x.delivery x.after

-- a message's own number is below those that come later
none_later : (e : EventName) (g : Delivery → List MsgId → Bool) (i j : ℕ) (ls : List (MsgId × Message)) → j < i → list_any (λ l. same_message l.0 (record { event = e; index = j }) && g l.1.delivery l.1.after) (numbered e i ls) ≡ false
none_later e g i j [] h = refl
none_later e g i j (l ∷ ls) h =
    let other : same_message (record { event = e; index = i }) (record { event = e; index = j }) ≡ false =
    is_false (same_message (record { event = e; index = i }) (record { event = e; index = j }))
    (λ t. let q : i ≡ j = ap (λ (m : MsgId). m.index) (message_equal (record { event = e; index = i }) (record { event = e; index = j }) t) in omega (arith, h, q)) in
    ap (λ b. (b && g l.1.delivery l.1.after) || list_any (λ l. same_message l.0 (record { event = e; index = j }) && g l.1.delivery l.1.after) (numbered e (i + 1) ls)) other
    ∙ none_later e g (i + 1) j ls (omega (arith, h))

letter_case : (x y z : Bool) → x ≡ false → z ≡ false → y ≡ (x || (y || z))
letter_case x y z h g = sym (or_false y) ∙ ap (λ z. y || z) (sym g) ∙ ap (λ x. x || (y || z)) (sym h)

pub letters_read : (e : EventName) (g : Delivery → List MsgId → Bool) (rest : Writes) (w : World) (n : MsgId) → (n.event ≡ e → asked_of g (message_in (written events rest w (key.Msg n))) ≡ false) → (i : ℕ) (ls : List (MsgId × Message))
    → asked_of g (message_in (written events (letters_from e i ls ++ rest) w (key.Msg n)))
    ≡ (asked_of g (message_in (written events rest w (key.Msg n))) || list_any (λ l. same_message l.0 n && g l.1.delivery l.1.after) (numbered e i ls))
letters_read e g rest w n h i [] = sym (or_false (asked_of g (message_in (written events rest w (key.Msg n)))))
letters_read e g rest w n h i (l ∷ ls) = go (same_message (record { event = e; index = i }) n) refl (letters_read e g rest w n h (i + 1) ls)
  where
    go : (q : Bool) → same_message (record { event = e; index = i }) n ≡ q
        → asked_of g (message_in (written events (letters_from e (i + 1) ls ++ rest) w (key.Msg n))) ≡ (asked_of g (message_in (written events rest w (key.Msg n))) || list_any (λ l. same_message l.0 n && g l.1.delivery l.1.after) (numbered e (i + 1) ls))
        → asked_of g (message_in (cond q (Some (message l.1)) (written events (letters_from e (i + 1) ls ++ rest) w (key.Msg n))))
        ≡ (asked_of g (message_in (written events rest w (key.Msg n))) || ((q && g l.1.delivery l.1.after) || list_any (λ l. same_message l.0 n && g l.1.delivery l.1.after) (numbered e (i + 1) ls)))
    go true t k =
        let its : record { event = e; index = i } ≡ n = message_equal (record { event = e; index = i }) n t in
        letter_case (asked_of g (message_in (written events rest w (key.Msg n)))) (g l.1.delivery l.1.after) (list_any (λ l. same_message l.0 n && g l.1.delivery l.1.after) (numbered e (i + 1) ls))
        (h (ap (λ (m : MsgId). m.event) (sym its)))
        (subst (λ m. list_any (λ l. same_message l.0 m && g l.1.delivery l.1.after) (numbered e (i + 1) ls) ≡ false) its (none_later e g (i + 1) i ls (omega arith)))
    go false t k = k

-- none of the messages that an event makes is done
pub letters_undone : (e : EventName) (rest : Writes) (w : World) (n : MsgId) → (n.event ≡ e → done_in (message_in (written events rest w (key.Msg n))) ≡ false) → (i : ℕ) (ls : List (MsgId × Message)) → AllByRecursion (λ l. is_done l.1.place ≡ false) ls
    → done_in (message_in (written events (letters_from e i ls ++ rest) w (key.Msg n))) ≡ done_in (message_in (written events rest w (key.Msg n)))
letters_undone e rest w n h i [] d = refl
letters_undone e rest w n h i (l ∷ ls) d = go (same_message (record { event = e; index = i }) n) refl (letters_undone e rest w n h (i + 1) ls d.1)
  where
    go : (q : Bool) → same_message (record { event = e; index = i }) n ≡ q
        → done_in (message_in (written events (letters_from e (i + 1) ls ++ rest) w (key.Msg n))) ≡ done_in (message_in (written events rest w (key.Msg n)))
        → done_in (message_in (cond q (Some (message l.1)) (written events (letters_from e (i + 1) ls ++ rest) w (key.Msg n)))) ≡ done_in (message_in (written events rest w (key.Msg n)))
    go true t k = d.0 ∙ sym (h (ap (λ (m : MsgId). m.event) (sym (message_equal (record { event = e; index = i }) n t))))
    go false t k = k

-- ---- publications

-- whether a message travels in what was published with a reference
abbrev pub went_with : Reference → MsgId → Option Published → Bool
went_with r m o = member (names_for (publication_fences o) r) m

-- the first publication of a promise counts, and only where it was not published before
pub boards_read : (w : World) (q : PromId) (r : Reference) (x : MsgId) (rest : Writes) → Passes (key.Board q) rest → (bs : List (PromId × Published))
    → went_with r x (published_in (written events (on_the_board (counted w bs) ++ rest) w (key.Board q)))
    ≡ (went_with r x (published_as w q) || went_with r x (publication_in (was_published w) bs (in_publication q)))
boards_read w q r x rest h [] = ap (λ o. went_with r x (published_in o)) (sym (ap (λ ps. written events ps w (key.Board q)) (append-nil rest)) ∙ passed rest [] w (key.Board q) h) ∙ sym (or_false (went_with r x (published_as w q)))
boards_read w q r x rest h (b ∷ bs) = go (is_some (published_as w b.0)) refl (boards_read w q r x rest h bs)
  where
    named : (y : Bool) → is_some (published_as w b.0) ≡ false → is_eq (promise_cmp b.0 q) ≡ y
        → went_with r x (published_in (written events (on_the_board (counted w bs) ++ rest) w (key.Board q))) ≡ (went_with r x (published_as w q) || went_with r x (publication_in (was_published w) bs (in_publication q)))
        → went_with r x (published_in (cond y (Some (published b.1)) (written events (on_the_board (counted w bs) ++ rest) w (key.Board q))))
        ≡ (went_with r x (published_as w q) || went_with r x (cond (y && true) (Some b.1) (publication_in (was_published w) bs (in_publication q))))
    named true i j k = ap (λ y. y || went_with r x (Some b.1)) (sym (absent (published_as w q) (ap (λ p. is_some (published_as w p)) (sym (exact_promises b.0 q (equal (promise_cmp b.0 q) j))) ∙ i)))
      where
        absent : (o : Option Published) → is_some o ≡ false → went_with r x o ≡ false
        absent None e = refl
        absent (Some y) e = absurd (true≢false e)
    named false i j k = k

    go : (n : Bool) → is_some (published_as w b.0) ≡ n
        → went_with r x (published_in (written events (on_the_board (counted w bs) ++ rest) w (key.Board q))) ≡ (went_with r x (published_as w q) || went_with r x (publication_in (was_published w) bs (in_publication q)))
        → went_with r x (published_in (written events (on_the_board (cond n (counted w bs) (b ∷ counted w bs)) ++ rest) w (key.Board q)))
        ≡ (went_with r x (published_as w q) || went_with r x (cond (is_eq (promise_cmp b.0 q) && not n) (Some b.1) (publication_in (was_published w) bs (in_publication q))))
    go true i k = k ∙ ap (λ o. went_with r x (published_as w q) || went_with r x o) (sym (never (is_eq (promise_cmp b.0 q))))
      where
        never : (y : Bool) → cond (y && false) (Some b.1) (publication_in (was_published w) bs (in_publication q)) ≡ publication_in (was_published w) bs (in_publication q)
        never true = refl
        never false = refl
    go false i k = named (is_eq (promise_cmp b.0 q)) i refl k
