-- An agenda of an earlier world, while the cells are gone over that were written since.
use Rattle.std.proofs.Common.{◌≡◌, ℕ, suc, ◌+◌, ◌<◌, ◌≤◌, Bool, true, false, ◌&&◌, ◌||◌, cond, List, [], ◌∷◌, length, drop, get_or, is_some, refl, sym, ap, ap₂, subst, ◌∙◌, add-one, drop-cons}
use Rattle.std.specs.List.{list_any, AllByRecursion}
use Rattle.std.specs.Ordering.{is_eq}
use Rattle.std.proofs.lemmas.Bool.{and_parts, and_left, or_from, or_left, or_right, false≢true, false_from_ne_true}
use Rattle.std.proofs.lemmas.List.{drop_all}
use Rattle.history.proofs.Lists.{all_map, all_of, any_same}
use Rattle.ids.proofs.Keys.{message_self}
use Rattle.ids.proofs.CellKeys.{same_exact}
use Rattle.ids.specs.Cells.{message_cmp, promise_cmp, vat_cmp}
use Rattle.ids.specs.CellKeys.{same_key}
use Rattle.ids.specs.declared.names.VatNo.{VatNo}
use Rattle.ids.specs.declared.names.MsgId.{MsgId}
use Rattle.ids.specs.declared.names.PromId.{PromId}
use Rattle.ids.specs.declared.cells.CellKey.{CellKey}
use Rattle.ids.specs.declared.cells.CellKey.TheVariants as key
use Rattle.world_cells.specs.World.{World, message_in, message_of, published_in, published_as, cell_content}
use Rattle.book_agenda.specs.Agendas.{AlikeBut, is_open, open_view, can_learn}
use Rattle.book_agenda.specs.Waiting.{Indexed}
use Rattle.book_agenda.specs.Ways.{cue_cmp, key_of, waits_of, waits_in, cues_of, cues_in}
use Rattle.book_agenda.specs.AgendaView.{way, cues, watches, has_open, has_known, same_view, is_cue, Watched, NotedIn, stirs, shows, NotesCell}
use Rattle.book_agenda.specs.declared.ways.Cue.{Cue}
use Rattle.book_agenda.specs.declared.ways.Cue.TheVariants as cue
use Rattle.book_agenda.specs.declared.agenda.Agenda.{Agenda}
use Rattle.book_agenda.proofs.Orders.{turned, and_turned, vat_total, promise_total, cue_self}
use Rattle.book_agenda.proofs.Telling.{AgreeOn, told_alike}

abbrev pub is_left : CellKey → List CellKey → Bool
is_left k keys = list_any (same_key k) keys

-- what is noted is right but for what the cells tell of that are left, and a promise is known only where it is open
pub record Renewed (w : World) (left : List CellKey) (a : Agenda) : Type 0 where
  pub messages : (m : MsgId) → list_any (λ k. stirs a k m) left ≡ false → (way a m ≡ waits_in w m) × (cues a m ≡ cues_in w m)
  pub watched : Watched a
  pub indexed : Indexed a.waiting
  pub views : (p : PromId) (v : VatNo) → is_left (key.View v p) left ≡ false → has_open a p v ≡ open_view w p v
  pub learns : (v : VatNo) (p : PromId) → is_left (key.View v p) left ≡ false → is_left (key.Board p) left ≡ false → has_known a v p ≡ can_learn w v p
  pub within : (v : VatNo) (p : PromId) → has_known a v p ≡ true → has_open a p v ≡ true

-- ---- what tells of a message

or_parts : (x y : Bool) → (x || y) ≡ false → (x ≡ false) × (y ≡ false)
or_parts true y h = absurd (false≢true (sym h))
or_parts false y h = (refl, h)

-- where no cell of a list passes a test, each that passes it is not in the list
left_out : (test : CellKey → Bool) (ks : List CellKey) → list_any test ks ≡ false → (k : CellKey) → test k ≡ true → is_left k ks ≡ false
left_out test [] none k h = refl
left_out test (j ∷ js) none k h =
    let parts = or_parts (test j) (list_any test js) none in
    or_from (same_key k j) (is_left k js) (false_from_ne_true (same_key k j) (λ e. false≢true (sym parts.0 ∙ ap test (sym (same_exact k j e)) ∙ h))) (left_out test js parts.1 k h)

-- a cell tells of the messages that are listed at it
stirred : (a : Agenda) (m : MsgId) (c : Cue) → watches a c m ≡ true → stirs a (key_of c) m ≡ true
stirred a m (cue.Message n) h = or_right (is_eq (message_cmp n m)) _ h
stirred a m (cue.View v p) h = h
stirred a m (cue.Board p) h = h

-- and of nothing else that waits than what it tells of in an agenda that lists it alike
stirs_alike : (a b : Agenda) (m : MsgId) → ((c : Cue) → watches a c m ≡ watches b c m) → (k : CellKey) → stirs a k m ≡ stirs b k m
stirs_alike a b m h (key.Msg n) = ap (λ x. is_eq (message_cmp n m) || x) (h (cue.Message n))
stirs_alike a b m h (key.View v p) = h (cue.View v p)
stirs_alike a b m h (key.Board p) = h (cue.Board p)
stirs_alike a b m h _ = refl

-- each of a list is in it
each_cue : (cs : List Cue) → AllByRecursion (λ c. is_cue cs c ≡ true) cs
each_cue [] = tt
each_cue (c ∷ cs) = (or_left _ _ (cue_self c), all_map _ _ cs (λ d h. or_right (is_eq (cue_cmp c d)) _ h) (each_cue cs))

-- so it is in the beginning, of all that was written
pub begun : (before w : World) (written : List CellKey) (a : Agenda) → NotedIn before a → AlikeBut written before w → Renewed w written a
begun before w written a notes alike = record {
  messages = messages;
  watched = notes.watched;
  indexed = notes.indexed;
  views = λ p v h. notes.views p v ∙ ap (λ x. is_open (cell_content x)) (alike (key.View v p) h);
  learns = λ v p h g. notes.learns v p ∙ ap₂ (λ x y. is_open (cell_content x) && is_some (published_in y)) (alike (key.View v p) h) (alike (key.Board p) g);
  within = λ v p h. notes.views p v ∙ (and_parts (open_view before p v) (is_some (published_as before p)) (sym (notes.learns v p) ∙ h)).0;
}
  where
    messages : (m : MsgId) → list_any (λ k. stirs a k m) written ≡ false → (way a m ≡ waits_in w m) × (cues a m ≡ cues_in w m)
    messages m none =
        let out = left_out (λ k. stirs a k m) written none in
        let there : message_of before m ≡ message_of w m = ap message_in (alike (key.Msg m) (out (key.Msg m) (or_left _ _ (message_self m)))) in
        let told : cues a m ≡ cues_of before (message_of w m) = notes.told m ∙ ap (cues_of before) there in
        let agree : AgreeOn before w (cues a m) = all_map _ _ (cues a m) (λ c among. sym (alike (key_of c) (out (key_of c) (stirred a m c (notes.watched c m ∙ among))))) (each_cue (cues a m)) in
        let same = told_alike before w (message_of w m) (subst (AgreeOn before w) told agree) in
        (notes.messages m ∙ ap (waits_of before) there ∙ sym same.0, told ∙ sym same.1)

-- and in the end it is the agenda of the world
pub ended : (w : World) (a : Agenda) → Renewed w [] a → NotedIn w a
ended w a r = record {
  messages = λ m. (r.messages m refl).0;
  told = λ m. (r.messages m refl).1;
  watched = r.watched;
  indexed = r.indexed;
  views = λ p v. r.views p v refl;
  learns = λ v p. r.learns v p refl refl;
}

-- ---- one cell

taken : {A : Type 0} (b : Bool) (x y : A) → (b ≡ false → y ≡ x) → cond b x y ≡ x
taken true x y h = refl
taken false x y h = h refl

view_key : (p q : PromId) (v u : VatNo) → same_view q u p v ≡ false → same_key (key.View v p) (key.View u q) ≡ false
view_key p q v u h =
    ap₂ (λ a b. a && b) (turned vat_total v u) (turned promise_total p q) ∙ and_turned (is_eq (vat_cmp u v)) (is_eq (promise_cmp q p)) ∙ h

-- what was published, for a vat in whose view the promise was open or not
learnt : (s o k pub_known open_now : Bool) → (s ≡ false → k ≡ pub_known) → (o ≡ open_now) → (k ≡ true → o ≡ true) → (open_now ≡ false → pub_known ≡ false) → cond (s && o) pub_known k ≡ pub_known
learnt true true k l n other same within none = refl
learnt true false k l n other same within none = false_from_ne_true k (λ e. false≢true (within e)) ∙ sym (none (sym same))
learnt false o k l n other same within none = other refl

-- the view that a cell does not tell of is another cell
view_left : (a : Agenda) (k : CellKey) (p : PromId) (v : VatNo) → shows a k p v ≡ false → same_key (key.View v p) k ≡ false
view_left a (key.View u q) p v h = view_key p q v u h
view_left a _ p v h = refl

-- what a vat can learn, of what it could learn before a cell was noted
learns_noted : (w : World) (k : CellKey) (left : List CellKey) (a : Agenda) → Renewed w (k ∷ left) a → (v : VatNo) (p : PromId) → is_left (key.View v p) left ≡ false → is_left (key.Board p) left ≡ false
    → cond (shows a k p v) (can_learn w v p) (has_known a v p) ≡ can_learn w v p
learns_noted w (key.Board q) left a r v p h g =
    learnt (is_eq (promise_cmp q p)) (has_open a p v) (has_known a v p) (can_learn w v p) (open_view w p v)
    (λ e. r.learns v p h (or_from (is_eq (promise_cmp p q)) (is_left (key.Board p) left) (turned promise_total p q ∙ e) g))
    (r.views p v h) (r.within v p) (λ e. and_left (open_view w p v) (is_some (published_as w p)) e)
learns_noted w (key.View u q) left a r v p h g = taken (same_view q u p v) _ _ (λ e. r.learns v p (or_from (same_key (key.View v p) (key.View u q)) (is_left (key.View v p) left) (view_key p q v u e) h) g)
learns_noted w (key.Msg m) left a r v p h g = r.learns v p h g
learns_noted w (key.Name x) left a r v p h g = r.learns v p h g
learns_noted w (key.Slot x) left a r v p h g = r.learns v p h g
learns_noted w (key.Object x) left a r v p h g = r.learns v p h g
learns_noted w (key.Top u x) left a r v p h g = r.learns v p h g
learns_noted w (key.Fence u x) left a r v p h g = r.learns v p h g

pub one_noted : (w : World) (k : CellKey) (left : List CellKey) (a b : Agenda) → Renewed w (k ∷ left) a → NotesCell w k a b → Renewed w left b
one_noted w k left a b r n = record {
  messages = λ m h. by m h (stirs a k m) refl;
  watched = n.watched r.watched;
  indexed = n.indexed r.indexed;
  views = λ p v h. n.views p v ∙ taken (shows a k p v) _ _ (λ e. r.views p v (or_from (same_key (key.View v p) k) (is_left (key.View v p) left) (view_left a k p v e) h));
  learns = λ v p h g. n.learns v p ∙ learns_noted w k left a r v p h g;
  within = λ v p h. n.views p v ∙ within v p (shows a k p v) (sym (n.learns v p) ∙ h);
}
  where
    within : (v : VatNo) (p : PromId) (c : Bool) → cond c (can_learn w v p) (has_known a v p) ≡ true → cond c (open_view w p v) (has_open a p v) ≡ true
    within v p true e = (and_parts (open_view w p v) (is_some (published_as w p)) e).0
    within v p false e = r.within v p e

    by : (m : MsgId) → list_any (λ j. stirs b j m) left ≡ false → (c : Bool) → stirs a k m ≡ c → (way b m ≡ waits_in w m) × (cues b m ≡ cues_in w m)
    by m h true e = (n.ways m ∙ ap (λ c. cond c (waits_in w m) (way a m)) e, n.told m ∙ ap (λ c. cond c (cues_in w m) (cues a m)) e)
    by m h false e =
        let stays : cues b m ≡ cues a m = n.told m ∙ ap (λ c. cond c (cues_in w m) (cues a m)) e in
        let listed : (c : Cue) → watches a c m ≡ watches b c m = λ c. r.watched c m ∙ ap (λ l. is_cue l c) (sym stays) ∙ sym (n.watched r.watched c m) in
        let was = r.messages m (or_from (stirs a k m) (list_any (λ j. stirs a j m) left) e (any_same (λ j. stirs a j m) (λ j. stirs b j m) left (all_of _ left (stirs_alike a b m listed)) ∙ h)) in
        (n.ways m ∙ ap (λ c. cond c (waits_in w m) (way a m)) e ∙ was.0, stays ∙ was.1)

-- ---- the cells one after the other

pub next_noted : (w : World) (written : List CellKey) (i : ℕ) (k : CellKey) (a b : Agenda) → i < length written → k ≡ get_or written i k → Renewed w (drop i written) a → NotesCell w k a b → Renewed w (drop (i + 1) written) b
next_noted w written i k a b within at r n =
    one_noted w k (drop (i + 1) written) a b
    (subst (λ left. Renewed w left a) (rw (add-one, drop-cons written i k) (ap (λ x. x ∷ drop (suc i) written) (sym at))) r) n

-- all of them
pub all_noted : (before w : World) (written : List CellKey) (i : ℕ) (a b : Agenda) → length written ≤ i → NotedIn before a → AlikeBut written before w → (Renewed w written a → Renewed w (drop i written) b) → NotedIn w b
all_noted before w written i a b over notes alike noted = ended w b (subst (λ left. Renewed w left b) (drop_all i written over) (noted (begun before w written a notes alike)))
