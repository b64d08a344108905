-- What the program works out of a turn, and of what a vat learns, is what it leaves.
use Rattle.std.proofs.Common.{◌≡◌, ℕ, ◌+◌, ◌<◌, Bool, true, false, cond, ◌||◌, ◌&&◌, not, List, [], ◌∷◌, ◌++◌, map, Option, Some, None, is_some, refl, sym, ap, ap₂, ◌∙◌, subst, append-nil, arith}
use Rattle.std.specs.List.{list_any, AllByRecursion}
use Rattle.std.specs.Map.{lookup}
use Rattle.std.specs.Option.{option_map}
use Rattle.std.proofs.lemmas.List.{map-append}
use Rattle.std.proofs.lemmas.List.Folds.{list_any-append}
use Rattle.std.proofs.lemmas.Bool.{false≢true}
use Rattle.history.specs.Records.{Record, Apart, Writes, record_of}
use Rattle.history.specs.Subject.{Laws, found}
use Rattle.history.proofs.Lists.{all_map}
use Rattle.history.proofs.Exchanges.{writes_recorded}
use Rattle.ids.specs.CellKeys.{same_key}
use Rattle.ids.proofs.CellKeys.{same_exact, same_self, promises_agree}
use Rattle.ids.proofs.Keys.{promise_self}
use Rattle.ids.specs.declared.names.EventName.{EventName}
use Rattle.ids.specs.declared.names.VatNo.{VatNo}
use Rattle.ids.specs.declared.names.MsgId.{MsgId}
use Rattle.ids.specs.declared.names.PromId.{PromId}
use Rattle.ids.specs.declared.cells.CellKey.{CellKey}
use Rattle.ids.specs.declared.cells.CellKey.TheVariants as key
use Rattle.cells.specs.Touches.{standing}
use Rattle.cells.specs.declared.touches.Touch.{Touch}
use Rattle.heap.specs.State as heap
use Rattle.heap.specs.State.{Cell, top, slot_cell, object_cell, view_cell, fence_cell, same_cell}
use Rattle.heap.specs.Found.{touch_in, touched_in, writes_in, written_part, left_by}
use Rattle.heap.specs.declared.reach.Footprint.{Footprint}
use Rattle.refs.specs.Walks.{same_promise}
use Rattle.post.specs.Messages.{done, Message, Published}
use Rattle.eval_rules.specs.Outbox.{is_published}
use Rattle.eval_rules.specs.OutboxView.{note_of, outbox_of}
use Rattle.eval_rules.specs.PublicationsView.{EachOnce as EachPublishedOnce}
use Rattle.world_cells.specs.World.{Content, message, World, cell_key, published_as, vat_state}
use Rattle.world_cells.specs.Theory.{cells, kepts_of}
use Rattle.turn_deliveries.specs.Turn.{Told, told, lost}
use Rattle.turn_deliveries.specs.Outcomes.{kept, told_of, outcome_on}
use Rattle.turn_deliveries.specs.declared.outcome.Outcome as code
use Rattle.event.specs.Events.{noted_events, Foot, AreNew, Leaves, TurnLeaves, is_lost, turn_foot, turn_reads, learn_foot, learnt, in_world, letters_from, on_the_board, counted, made_by}
use Rattle.event.specs.Effects.{Brings, BringsLearnt, BringsTurn, turn_of}
use Rattle.event.specs.Entries.{Entry, EachOnce, entries_of, cells_in, keys_in, left_in, left_unless, left_of, kept_left}
use Rattle.event.specs.Learning.{Learns}
use Rattle.event.specs.declared.effects.Effects.{Effects}
use Rattle.event.proofs.Listed.{known, any_listed, any_left, left_known, left_within, kept_apart}
use Rattle.event.proofs.Standing.{looked_up, each_once}

-- ---- what is left in a vat

-- something is told where something was
is_some_told : {A B : Type 0} (f : A → B) (o : Option A) → is_some (option_map f o) ≡ is_some o
is_some_told f None = refl
is_some_told f (Some x) = refl

-- what is known to be written
known_part : (o : Option (Touch heap.Content)) → known (option_map (λ (t : Touch heap.Content). t.written) o) ≡ written_part o
known_part None = refl
known_part (Some t) = refl

module _ (r : Footprint) (h : EachOnce r) where
  -- what is listed of a cell is what was written there
  known_written : (c : Cell) → known (lookup (same_cell c) (entries_of r)) ≡ writes_in r c
  known_written c = ap known (looked_up r c) ∙ known_part (touch_in r c)

  -- the cells that were touched, and those that were written
  cells_touched : (c : Cell) → list_any (same_cell c) (cells_in (entries_of r)) ≡ touched_in r c
  cells_touched c = any_listed c (entries_of r) ∙ ap is_some (looked_up r c) ∙ is_some_told _ (touch_in r c)

  -- an abandoned turn wrote none
  cells_written : (b : Bool) (c : Cell) → list_any (same_cell c) (map (λ p. p.0) (left_unless b r)) ≡ (not b && is_some (writes_in r c))
  cells_written true c = refl
  cells_written false c = any_left c (entries_of r) (each_once r h) ∙ ap is_some (known_written c)

  -- what was written there
  contents_known : AllByRecursion (λ p. writes_in r p.0 ≡ Some p.1) (left_in (entries_of r))
  contents_known = all_map (λ p. known (lookup (same_cell p.0) (entries_of r)) ≡ Some p.1) (λ p. writes_in r p.0 ≡ Some p.1) (left_in (entries_of r)) (λ p k. sym (known_written p.0) ∙ k) (left_known (entries_of r) (each_once r h))

  -- an abandoned turn left nothing to stand there
  contents_left : (t : Told) (u : heap.State) → AllByRecursion (λ p. kept t u (left_by r u) p.0 ≡ Some p.1) (left_unless (is_lost t) r)
  contents_left (told x) u = all_map _ _ (left_in (entries_of r)) (λ p k. ap (standing (u p.0)) k) contents_known
  contents_left (lost why) u = tt

-- the turn leaves what is listed
leaves : (g : Message) (v : VatNo) (o : code.Outcome) (u : heap.State) → EachOnce o.footprint → TurnLeaves (turn_of g v o u) (cells_in (entries_of o.footprint)) (left_of o)
leaves g v o u h = record {
  touched = cells_touched o.footprint h;
  written = cells_written o.footprint h (is_lost (told_of o.ended));
  contents = contents_left o.footprint h (told_of o.ended) u;
}

-- and so does a vat that learns something
leaves_learnt : (w : World) (v : VatNo) (p : PromId) (b : Published) (r : Footprint) → EachOnce r → Learns (vat_state w v) p b r
    → Leaves (learnt w v p b).touched (learnt w v p b).written (learnt w v p b).state (cells_in (entries_of r)) (left_in (entries_of r))
leaves_learnt w v p b r h l = record {
  touched = λ c. cells_touched r h c ∙ ap (λ (q : heap.Cells). q c) l.touched;
  written = λ c. cells_written r h false c ∙ ap (λ (q : heap.Cells). q c) l.written;
  contents = all_map _ _ (left_in (entries_of r)) (λ q k. l.holds q.0 q.1 k) (contents_known r h);
}

-- ---- no cell twice

-- the cells alone have no events
cells_lawful : Laws cells
cells_lawful = record { same_exact = same_exact; same_self = same_self; law = λ e f w v does h. absurd does; once = λ e w f g does h. absurd does }

-- none of these writes is of a cell
abbrev pub Free : List (CellKey × Content) → CellKey → Type 0
Free ps k = AllByRecursion (λ p. same_key p.0 k ≡ false) ps

-- each is of another cell than those behind it
abbrev pub Once : List (CellKey × Content) → Type 0
Once [] = Unit {0}
Once (p ∷ ps) = Free ps p.0 × Once ps

free_both : (xs ys : List (CellKey × Content)) (k : CellKey) → Free xs k → Free ys k → Free (xs ++ ys) k
free_both [] ys k h g = g
free_both (x ∷ xs) ys k h g = (h.0, free_both xs ys k h.1 g)

once_both : (xs ys : List (CellKey × Content)) → Once xs → Once ys → AllByRecursion (λ x. Free ys x.0) xs → Once (xs ++ ys)
once_both [] ys h g a = g
once_both (x ∷ xs) ys h g a = (free_both xs ys x.0 h.0 a.0, once_both xs ys h.1 g a.1)

module _ (n : ℕ) where
  free_found : (ps : List (CellKey × Content)) (k : CellKey) → Free ps k → found cells (record_of cells n ps) k ≡ None
  free_found [] k h = refl
  free_found (p ∷ ps) k h = ap (λ b. cond b (Some (Some p.1, Some n)) (found cells (record_of cells n ps) k)) h.0 ∙ free_found ps k h.1

  once_apart : (ps : List (CellKey × Content)) → Once ps → Apart cells (record_of cells n ps)
  once_apart [] h = tt
  once_apart (p ∷ ps) h = (free_found ps p.0 h.0, once_apart ps h.1)

-- keys that cannot be equal are not the same
differ : (k d : CellKey) → (k ≡ d → ⊥) → same_key k d ≡ false
differ k d h = by (same_key k d) refl
  where
    by : (b : Bool) → same_key k d ≡ b → b ≡ false
    by true e = absurd (h (same_exact k d e))
    by false e = refl

-- the number of the message whose cell it is
abbrev number_of : CellKey → ℕ
number_of (key.Msg m) = m.index
number_of _ = 0

-- letters are of other cells than what has another number, a promise, or a cell of a vat
later_letters : (e : EventName) (i j : ℕ) (ls : List (MsgId × Message)) → i < j → Free (letters_from e j ls) (key.Msg (record { event = e; index = i }))
later_letters e i j [] h = tt
later_letters e i j (l ∷ ls) h =
    (differ (key.Msg (record { event = e; index = j })) (key.Msg (record { event = e; index = i })) (λ same. let equal : j ≡ i = ap number_of same in absurd (omega (arith, h, equal))), later_letters e i (j + 1) ls (omega (arith, h)))

letters_once : (e : EventName) (i : ℕ) (ls : List (MsgId × Message)) → Once (letters_from e i ls)
letters_once e i [] = tt
letters_once e i (l ∷ ls) = (later_letters e i (i + 1) ls (omega arith), letters_once e (i + 1) ls)

-- what is published is of other cells than a message
board_free : (bs : List (PromId × Published)) (m : MsgId) → Free (on_the_board bs) (key.Msg m)
board_free [] m = tt
board_free (b ∷ bs) m = (refl, board_free bs m)

-- and than a promise that is not among what was published
other_promise : (p q : PromId) → same_promise p q ≡ false → same_key (key.Board q) (key.Board p) ≡ false
other_promise p q h =
    differ (key.Board q) (key.Board p) (λ same. let equal : p ≡ q = cc in false≢true (sym h ∙ subst (λ r. same_promise p r ≡ true) equal (promises_agree p p ∙ promise_self p)))

or_none : (a b : Bool) → cond a true b ≡ false → (a ≡ false) × (b ≡ false)
or_none true b h = absurd (false≢true (sym h))
or_none false b h = (refl, h)

counted_free : (w : World) (p : PromId) (bs : List (PromId × Published)) → is_published p bs ≡ false → Free (on_the_board (counted w bs)) (key.Board p)
counted_free w p [] h = tt
counted_free w p (b ∷ bs) h = let a = or_none (same_promise p b.0) (is_published p bs) h in by (is_some (published_as w b.0)) (other_promise p b.0 a.0) (counted_free w p bs a.1)
  where
    by : (q : Bool) → same_key (key.Board b.0) (key.Board p) ≡ false → Free (on_the_board (counted w bs)) (key.Board p) → Free (on_the_board (cond q (counted w bs) (b ∷ counted w bs))) (key.Board p)
    by true a rest = rest
    by false a rest = (a, rest)

counted_once : (w : World) (bs : List (PromId × Published)) → EachPublishedOnce bs → Once (on_the_board (counted w bs))
counted_once w [] h = tt
counted_once w (b ∷ bs) h = by (is_some (published_as w b.0)) (counted_free w b.0 bs h.0) (counted_once w bs h.1)
  where
    by : (q : Bool) → Free (on_the_board (counted w bs)) (key.Board b.0) → Once (on_the_board (counted w bs)) → Once (on_the_board (cond q (counted w bs) (b ∷ counted w bs)))
    by true a rest = rest
    by false a rest = (a, rest)

-- what is new is not the message that is there
new_apart : (w : World) (m : MsgId) (g : Message) (ps : List (CellKey × Content)) → w (key.Msg m) ≡ Some (message g) → AreNew w ps → AllByRecursion (λ p. same_key (key.Msg m) p.0 ≡ false) ps
new_apart w m g [] is h = tt
new_apart w m g (p ∷ ps) is h =
    (differ (key.Msg m) p.0 (λ same. let there : Some (message g) ≡ None = sym is ∙ ap w same ∙ h.0 in absurd (cc)), new_apart w m g ps is h.1)

-- the cells of letters are of messages
abbrev IsMessage : CellKey → Type 0
IsMessage k = (m : MsgId) × (k ≡ key.Msg m)

letters_messages : (e : EventName) (i : ℕ) (ls : List (MsgId × Message)) → AllByRecursion (λ p. IsMessage p.0) (letters_from e i ls)
letters_messages e i [] = tt
letters_messages e i (l ∷ ls) = ((record { event = e; index = i }, refl), letters_messages e (i + 1) ls)

all_two : {A : Type 0} (P Q R : A → Type 0) (xs : List A) → ((a : A) → P a → Q a → R a) → AllByRecursion P xs → AllByRecursion Q xs → AllByRecursion R xs
all_two P Q R [] f h g = tt
all_two P Q R (x ∷ xs) f h g = (f x h.0 g.0, all_two P Q R xs f h.1 g.1)

module _ (e : EventName) (w : World) (m : MsgId) (g h : Message) (ls : List (MsgId × Message)) (bs : List (PromId × Published)) (is : w (key.Msg m) ≡ Some (message g)) (new : AreNew w (letters_from e 0 ls)) (each : EachPublishedOnce bs) where
  abbrev ending : List (CellKey × Content)
  ending = (key.Msg m, message h) ∷ []

  abbrev behind : List (CellKey × Content)
  behind = on_the_board (counted w bs) ++ ending

  -- what a turn makes is of different cells
  all_made_once : Once (letters_from e 0 ls ++ behind)
  all_made_once =
      once_both (letters_from e 0 ls) behind (letters_once e 0 ls)
      (once_both (on_the_board (counted w bs)) ending (counted_once w bs each) (tt, tt) (boards (counted w bs)))
      (all_two _ _ _ (letters_from e 0 ls) (λ p kind other. subst (Free behind) (sym kind.1) (free_both (on_the_board (counted w bs)) ending (key.Msg kind.0) (board_free (counted w bs) kind.0) (subst (λ k. same_key (key.Msg m) k ≡ false) kind.1 other, tt))) (letters_messages e 0 ls) (new_apart w m g (letters_from e 0 ls) is new))
    where
      boards : (ps : List (PromId × Published)) → AllByRecursion (λ x. Free ending x.0) (on_the_board ps)
      boards [] = tt
      boards (p ∷ ps) = ((refl, tt), boards ps)

-- what is made is of other cells than a vat's
module _ (v : VatNo) where
  no_message : (m : MsgId) (c : Cell) → same_key (key.Msg m) (cell_key v c) ≡ false
  no_message m (top x) = refl
  no_message m (slot_cell s) = refl
  no_message m (object_cell i) = refl
  no_message m (view_cell p) = refl
  no_message m (fence_cell r) = refl

  no_board : (p : PromId) (c : Cell) → same_key (key.Board p) (cell_key v c) ≡ false
  no_board p (top x) = refl
  no_board p (slot_cell s) = refl
  no_board p (object_cell i) = refl
  no_board p (view_cell q) = refl
  no_board p (fence_cell r) = refl

  no_letters : (e : EventName) (i : ℕ) (ls : List (MsgId × Message)) (c : Cell) → Free (letters_from e i ls) (cell_key v c)
  no_letters e i [] c = tt
  no_letters e i (l ∷ ls) c = (no_message (record { event = e; index = i }) c, no_letters e (i + 1) ls c)

  no_boards : (bs : List (PromId × Published)) (c : Cell) → Free (on_the_board bs) (cell_key v c)
  no_boards [] c = tt
  no_boards (b ∷ bs) c = (no_board b.0 c, no_boards bs c)

-- ---- what is touched

-- a part of what stands before adds nothing
absorbed : (r c z l m : Bool) → (l ≡ true → c ≡ true) → (r ≡ false → z ≡ m) → (r || (c || z)) ≡ ((r || c) || (l || m))
absorbed true c z l m h g = refl
absorbed false true z l m h g = refl
absorbed false false z true m h g = absurd (false≢true (h refl))
absorbed false false z false m h g = g refl

-- the keys of cells
keys_same : (v : VatNo) (es : List Entry) → map (cell_key v) (cells_in es) ≡ keys_in v es
keys_same v [] = refl
keys_same v (e ∷ es) = ap (λ l. cell_key v e.0 ∷ l) (keys_same v es)

-- what was left was touched
left_touched : (b : Bool) (v : VatNo) (r : Footprint) (test : CellKey → Bool) → list_any test (map (λ p. p.0) (in_world v (left_unless b r))) ≡ true → list_any test (keys_in v (entries_of r)) ≡ true
left_touched true v r test h = absurd (false≢true h)
left_touched false v r test h = left_within v test (entries_of r) h

-- the keys of what is touched are those of what is read and written, where what is written was touched
touch_same : (test : CellKey → Bool) (before keys last reads : List CellKey) (left more : List (CellKey × Content)) → reads ≡ keys
    → (list_any test (map (λ p. p.0) left) ≡ true → list_any test keys ≡ true) → (list_any test before ≡ false → list_any test last ≡ list_any test (map (λ p. p.0) more))
    → list_any test (before ++ (keys ++ last)) ≡ list_any test ((before ++ reads) ++ map (λ p. p.0) (left ++ more))
touch_same test before keys last reads left more is within ends =
    list_any-append test before (keys ++ last) ∙ ap (λ b. list_any test before || b) (list_any-append test keys last)
    ∙ absorbed (list_any test before) (list_any test keys) (list_any test last) (list_any test (map (λ p. p.0) left)) (list_any test (map (λ p. p.0) more)) within ends
    ∙ ap₂ (λ a b. a || b)
    (sym (list_any-append test before keys) ∙ ap (λ l. list_any test (before ++ l)) (sym is))
    (sym (list_any-append test (map (λ p. p.0) left) (map (λ p. p.0) more)) ∙ ap (list_any test) (sym (map-append (λ (p : CellKey × Content). p.0) left more)))
    ∙ sym (list_any-append test (before ++ reads) (map (λ p. p.0) (left ++ more)))

-- what counts of publications was looked up
counted_within : (w : World) (test : CellKey → Bool) (bs : List (PromId × Published)) → list_any test (map (λ b. key.Board b.0) bs) ≡ false → list_any test (map (λ p. p.0) (on_the_board (counted w bs))) ≡ false
counted_within w test [] h = refl
counted_within w test (b ∷ bs) h = let a = neither (test (key.Board b.0)) (list_any test (map (λ b. key.Board b.0) bs)) h in by (is_some (published_as w b.0)) a.0 (counted_within w test bs a.1)
  where
    neither : (a c : Bool) → (a || c) ≡ false → (a ≡ false) × (c ≡ false)
    neither true c h = absurd (false≢true (sym h))
    neither false c h = (refl, h)

    by : (q : Bool) → test (key.Board b.0) ≡ false → list_any test (map (λ p. p.0) (on_the_board (counted w bs))) ≡ false → list_any test (map (λ p. p.0) (on_the_board (cond q (counted w bs) (b ∷ counted w bs)))) ≡ false
    by true a rest = rest
    by false a rest = ap₂ (λ x y. x || y) a rest

last_part : (xs ys zs : List CellKey) (test : CellKey → Bool) → list_any test (xs ++ (ys ++ zs)) ≡ false → list_any test zs ≡ false
last_part [] [] zs test h = h
last_part [] (y ∷ ys) zs test h = last_part [] ys zs test (rest (test y) _ h)
  where
    rest : (a b : Bool) → (a || b) ≡ false → b ≡ false
    rest true b h = absurd (false≢true (sym h))
    rest false b h = h
last_part (x ∷ xs) ys zs test h = last_part xs ys zs test (rest (test x) _ h)
  where
    rest : (a b : Bool) → (a || b) ≡ false → b ≡ false
    rest true b h = absurd (false≢true (sym h))
    rest false b h = h

-- the keys of what is made, where what counts was looked up
made_keys : (test : CellKey → Bool) (ls bs ending : List (CellKey × Content)) → list_any test (map (λ p. p.0) bs) ≡ false → list_any test (map (λ p. p.0) ls ++ map (λ p. p.0) ending) ≡ list_any test (map (λ p. p.0) (ls ++ (bs ++ ending)))
made_keys test ls bs ending h =
    list_any-append test (map (λ p. p.0) ls) (map (λ p. p.0) ending)
    ∙ ap (λ b. list_any test (map (λ p. p.0) ls) || b)
    (ap (λ b. b || list_any test (map (λ p. p.0) ending)) (sym h) ∙ sym (list_any-append test (map (λ p. p.0) bs) (map (λ p. p.0) ending)) ∙ ap (list_any test) (sym (map-append (λ (p : CellKey × Content). p.0) bs ending)))
    ∙ sym (list_any-append test (map (λ p. p.0) ls) (map (λ p. p.0) (bs ++ ending)))
    ∙ ap (list_any test) (sym (map-append (λ (p : CellKey × Content). p.0) ls (bs ++ ending)))

-- ---- what it brings

module _ (e : EventName) (w : World) (m : MsgId) (g : Message) (v : VatNo) (o : code.Outcome) (u : heap.State) (h : EachOnce o.footprint)
    (is : w (key.Msg m) ≡ Some (message g)) (new : AreNew w (letters_from e 0 (outbox_of o.out).letters)) (each : EachPublishedOnce (outbox_of o.out).publications) where
  abbrev left : List (Cell × heap.Content)
  left = left_of o

  abbrev made : List (CellKey × Content)
  made = made_by e w m g (outcome_on o u)

  abbrev made_once : Once made
  made_once = all_made_once e w m g (record g { place = done e }) (outbox_of o.out).letters (outbox_of o.out).publications is new each

  -- no cell is written twice
  apart_unless : (b : Bool) → Apart cells (kept_left e v (left_unless b o.footprint) ++ record_of cells e.0 made)
  apart_unless true = once_apart e.0 made made_once
  apart_unless false = kept_apart e v (record_of cells e.0 made) none_made (once_apart e.0 made made_once) (entries_of o.footprint) (each_once o.footprint h)
    where
      none_made : (c : Cell) → found cells (record_of cells e.0 made) (cell_key v c) ≡ None
      none_made c =
          free_found e.0 made (cell_key v c)
          (free_both (letters_from e 0 (outbox_of o.out).letters) _ (cell_key v c) (no_letters v e 0 (outbox_of o.out).letters c)
          (free_both (on_the_board (counted w (outbox_of o.out).publications)) _ (cell_key v c) (no_boards v (counted w (outbox_of o.out).publications) c) (no_message v m c, tt)))

  -- the record of all that it writes
  recorded : kept_left e v left ++ record_of cells e.0 made ≡ record_of cells e.0 (in_world v left ++ made)
  recorded = sym (map-append _ (in_world v left) made)

  -- the cells that were touched, and a record of those that were written
  pub turn_brings : (it : Effects) → it.touched.items ≡ turn_reads w (turn_of g v o u) ++ (keys_in v (entries_of o.footprint) ++ (map (λ p. p.0) (letters_from e 0 (outbox_of o.out).letters) ++ key.Msg m ∷ []))
      → kepts_of it.records.items ≡ kept_left e v left ++ record_of cells e.0 made → map note_of it.notes.items ≡ (outbox_of o.out).notes → BringsTurn e w m (turn_of g v o u) it
  turn_brings it touched records noted = record {
    noted = noted;
    cells = cells_in (entries_of o.footprint);
    left = left;
    leaves = leaves g v o u h;
    brings = record {
      touch = λ k. ap (list_any (same_key k)) touched
          ∙ touch_same (same_key k) (turn_reads w (turn_of g v o u)) (keys_in v (entries_of o.footprint)) (map (λ p. p.0) (letters_from e 0 (outbox_of o.out).letters) ++ key.Msg m ∷ []) (map (cell_key v) (cells_in (entries_of o.footprint))) (in_world v left) made (keys_same v (entries_of o.footprint)) (left_touched (is_lost (told_of o.ended)) v o.footprint (same_key k))
          (λ none. made_keys (same_key k) (letters_from e 0 (outbox_of o.out).letters) (on_the_board (counted w (outbox_of o.out).publications)) ((key.Msg m, message (record g { place = done e })) ∷ []) (counted_within w (same_key k) (outbox_of o.out).publications (last_part _ _ (map (λ b. key.Board b.0) (outbox_of o.out).publications) (same_key k) none)));
      write =
          let f = turn_foot e w m (turn_of g v o u) (cells_in (entries_of o.footprint)) left in
          let W : Record cells → Type 0 = Writes noted_events e.0 f in
          let x = writes_recorded cells cells_lawful e.0 f (subst (Apart cells) recorded (apart_unless (is_lost (told_of o.ended)))) in
          subst W (sym (records ∙ recorded)) (record { cells = x.cells; apart = x.apart });
    };
  }

-- so of what a vat learns
pub learning_brings : (e : EventName) (w : World) (v : VatNo) (p : PromId) (b : Published) (r : Footprint) (it : Effects) → EachOnce r → Learns (vat_state w v) p b r
    → it.touched.items ≡ key.Board p ∷ keys_in v (entries_of r) → kepts_of it.records.items ≡ kept_left e v (left_in (entries_of r)) → it.notes.items ≡ [] → BringsLearnt e w v p b it
learning_brings e w v p b r it h l touched records quiet =
    let left = left_in (entries_of r) in
    record {
      quiet = quiet;
      cells = cells_in (entries_of r);
      left = left;
      leaves = leaves_learnt w v p b r h l;
      brings = record {
        touch = λ k. ap (list_any (same_key k)) (touched ∙ ap (λ xs. key.Board p ∷ xs) (sym (append-nil (keys_in v (entries_of r)))))
            ∙ touch_same (same_key k) (key.Board p ∷ []) (keys_in v (entries_of r)) [] (map (cell_key v) (cells_in (entries_of r))) (in_world v left) [] (keys_same v (entries_of r)) (left_touched false v r (same_key k)) (λ none. refl)
            ∙ ap (λ xs. list_any (same_key k) (key.Board p ∷ (map (cell_key v) (cells_in (entries_of r)) ++ map (λ p. p.0) xs))) (append-nil (in_world v left));
        write =
            let f = learn_foot v p (cells_in (entries_of r)) left in
            let W : Record cells → Type 0 = Writes noted_events e.0 f in
            let apart = kept_apart e v [] (λ c. refl) tt (entries_of r) (each_once r h) in
            let x = writes_recorded cells cells_lawful e.0 f (subst (Apart cells) (append-nil (kept_left e v left)) apart) in
            subst W (sym records) (record { cells = x.cells; apart = x.apart });
      };
    }

-- records of these writes, each of another cell, are those of a footprint that reads these cells
pub brings_once : (e : EventName) (reads : List CellKey) (ps : List (CellKey × Content)) (touched : List CellKey) (kept : Record cells) → Once ps → touched ≡ reads ++ map (λ p. p.0) ps → kept ≡ record_of cells e.0 ps → Brings e (record { reads = reads; writes = ps }) touched kept
brings_once e reads ps touched kept h t k = record {
  touch = λ c. ap (list_any (same_key c)) t;
  write =
      let f : Foot = record { reads = reads; writes = ps } in
      let W : Record cells → Type 0 = Writes noted_events e.0 f in
      let x = writes_recorded cells cells_lawful e.0 f (once_apart e.0 ps h) in
      subst W (sym k) (record { cells = x.cells; apart = x.apart });
}
