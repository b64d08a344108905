-- Notes that are made one after the other.
use Rattle.std.proofs.Common.{◌≡◌, Bool, true, false, ◌&&◌, ◌||◌, cond, List, [], ◌∷◌, ◌++◌, Option, Some, None, refl, sym, ap, ap₂, subst, ◌∙◌}
use Rattle.std.specs.List.{list_any}
use Rattle.std.specs.BTreeMap.{BTreeMap, get}
use Rattle.std.specs.BTreeSet.{BTreeSet, contains}
use Rattle.std.specs.declared.alloc.Global.{Global}
use Rattle.std.specs.declared.vec.Vec.{Vec}
use Rattle.std.specs.Ordering.{is_eq}
use Rattle.std.proofs.lemmas.Bool.{and_parts}
use Rattle.std.proofs.lemmas.List.Folds.{list_any-append}
use Rattle.ids.proofs.Keys.{equal, message_self, exact_vats, exact_promises, exact_messages}
use Rattle.ids.specs.Cells.{message_cmp, promise_cmp, vat_cmp}
use Rattle.ids.specs.declared.names.VatNo.{VatNo}
use Rattle.ids.specs.declared.names.MsgId.{MsgId}
use Rattle.ids.specs.declared.names.PromId.{PromId}
use Rattle.ids.specs.declared.cells.CellKey.{CellKey}
use Rattle.ids.specs.declared.cells.CellKey.TheVariants as key
use Rattle.world_cells.specs.World.{World}
use Rattle.book_agenda.specs.Agendas.{open_view, can_learn}
use Rattle.book_agenda.specs.Waiting.{how, Indexed, Puts}
use Rattle.book_agenda.specs.Ways.{cue_cmp, waits_in, cues_in}
use Rattle.book_agenda.specs.AgendaView.{open_cmp, known_cmp, watcher_cmp, way, cues_if, cues, is_watcher, watches, has_open, has_known, same_view, is_cue, Watched, KeepsEach, Watches, Places, NotesViews, stirs, shows, NotesCell}
use Rattle.book_agenda.specs.declared.waiting.Waits.{Waits}
use Rattle.book_agenda.specs.declared.waiting.Waiting.{Waiting}
use Rattle.book_agenda.specs.declared.ways.Cue.{Cue}
use Rattle.book_agenda.specs.declared.ways.Cue.TheVariants as cue
use Rattle.book_agenda.specs.declared.agenda.Watcher.{Watcher}
use Rattle.book_agenda.specs.declared.agenda.Open.{Open}
use Rattle.book_agenda.specs.declared.agenda.Known.{Known}
use Rattle.book_agenda.specs.declared.agenda.Agenda.{Agenda}
use Rattle.book_agenda.proofs.Orders.{then_both, and_turned}

-- ---- sets of what a loop has gone over

-- one more
pub one_more : {A : Type 0} (test : A → Bool) (xs : List A) (x : A) → (test x || list_any test xs) ≡ list_any test (xs ++ x ∷ [])
one_more test xs x = by (test x) (list_any test xs) ∙ sym (list_any-append test xs (x ∷ []))
  where
    by : (a b : Bool) → (a || b) ≡ (b || (a || false))
    by true true = refl
    by true false = refl
    by false true = refl
    by false false = refl

pub and_none : (a : Bool) → (a && false) ≡ false
and_none true = refl
and_none false = refl

-- of what passes a second test besides
pub one_more_after : {A : Type 0} (s : Bool) (test : A → Bool) (xs : List A) (x : A) → ((s && test x) || (s && list_any test xs)) ≡ (s && list_any test (xs ++ x ∷ []))
one_more_after s test xs x = by s (test x) (list_any test xs) ∙ ap (λ c. s && c) (one_more test xs x)
  where
    by : (s a b : Bool) → ((s && a) || (s && b)) ≡ (s && (a || b))
    by true a b = refl
    by false a b = refl

pub one_more_before : {A : Type 0} (s : Bool) (test : A → Bool) (xs : List A) (x : A) → ((test x && s) || (s && list_any test xs)) ≡ (s && list_any test (xs ++ x ∷ []))
one_more_before s test xs x = ap (λ c. c || (s && list_any test xs)) (and_turned (test x) s) ∙ one_more_after s test xs x

pub one_more_beside : {A : Type 0} (s : Bool) (test : A → Bool) (xs : List A) (x : A) → ((test x && s) || (list_any test xs && s)) ≡ (list_any test (xs ++ x ∷ []) && s)
one_more_beside s test xs x = ap (λ c. (test x && s) || c) (and_turned (list_any test xs) s) ∙ one_more_before s test xs x ∙ and_turned s (list_any test (xs ++ x ∷ []))

-- ---- choices

-- the same choice, of what is the same where it is taken
chosen : {A : Type 0} (b d : Bool) (x y z : A) → b ≡ d → (d ≡ true → x ≡ y) → cond b x z ≡ cond d y z
chosen b true x y z e h = ap (λ c. cond c x z) e ∙ h refl
chosen b false x y z e h = ap (λ c. cond c x z) e

chosen_twice : {A : Type 0} (r q : Bool) (y z : A) → cond r y (cond q y z) ≡ cond (r || q) y z
chosen_twice true q y z = refl
chosen_twice false q y z = refl

-- ---- one view

same_views : (w : World) (p : PromId) (v : VatNo) (q : PromId) (u : VatNo) → same_view p v q u ≡ true → open_view w p v ≡ open_view w q u
same_views w p v q u h =
    let parts = and_parts (is_eq (promise_cmp p q)) (is_eq (vat_cmp v u)) h in
    ap₂ (open_view w) (exact_promises p q (equal (promise_cmp p q) parts.0)) (exact_vats v u (equal (vat_cmp v u) parts.1))

same_learning : (w : World) (p : PromId) (v : VatNo) (q : PromId) (u : VatNo) → same_view p v q u ≡ true → can_learn w v p ≡ can_learn w u q
same_learning w p v q u h =
    let parts = and_parts (is_eq (promise_cmp p q)) (is_eq (vat_cmp v u)) h in
    ap₂ (can_learn w) (exact_vats v u (equal (vat_cmp v u) parts.1)) (exact_promises p q (equal (promise_cmp p q) parts.0))

pub noted_view : (w : World) (p : PromId) (v : VatNo) (a b : Agenda) (opened learnable : Bool) → opened ≡ open_view w p v → learnable ≡ can_learn w v p → b.waiting ≡ a.waiting → b.watchers ≡ a.watchers → b.cues ≡ a.cues
    → ((q : Open) → contains open_cmp b.open q ≡ cond (is_eq (open_cmp (record { promise = p; vat = v }) q)) opened (contains open_cmp a.open q))
    → ((q : Known) → contains known_cmp b.known q ≡ cond (is_eq (known_cmp (record { vat = v; promise = p }) q)) learnable (contains known_cmp a.known q))
    → NotesViews w (same_view p v) a b
noted_view w p v a b opened learnable o k same watchers tells opens knowns = record {
  waits = same;
  watchers = watchers;
  tells = tells;
  views = λ q u. opens (record { promise = q; vat = u }) ∙ chosen _ (same_view p v q u) _ _ _ (then_both (promise_cmp p q) (vat_cmp v u)) (λ h. o ∙ same_views w p v q u h);
  learns = λ u q. knowns (record { vat = u; promise = q }) ∙ chosen _ (same_view p v q u) _ _ _ (then_both (vat_cmp v u) (promise_cmp p q) ∙ and_turned (is_eq (vat_cmp v u)) (is_eq (promise_cmp p q))) (λ h. k ∙ same_learning w p v q u h);
}

-- ---- the cells that tell of a message

-- one more cell
pub keeps_more : (cs : List Cue) (m : MsgId) (d : Cue) (stays : Bool) (a b e : BTreeSet Watcher) → KeepsEach m cs stays a b
    → ((q : Watcher) → contains watcher_cmp e q ≡ cond (is_eq (watcher_cmp (record { cue = d; message = m }) q)) stays (contains watcher_cmp b q))
    → KeepsEach m (cs ++ d ∷ []) stays a e
keeps_more cs m d stays a b e f more = λ c n.
    more (record { cue = c; message = n })
    ∙ ap₂ (λ x y. cond x stays y) (then_both (cue_cmp d c) (message_cmp m n)) (f c n)
    ∙ chosen_twice (is_eq (cue_cmp d c) && is_eq (message_cmp m n)) (is_cue cs c && is_eq (message_cmp m n)) _ _
    ∙ ap (λ x. cond x stays (is_watcher a c n)) (one_more_beside (is_eq (message_cmp m n)) (λ u. is_eq (cue_cmp u c)) cs d)

-- the same, told otherwise
pub told_keeps : (m : MsgId) (xs ys : List Cue) (stays : Bool) (a b : BTreeSet Watcher) → xs ≡ ys → KeepsEach m xs stays a b → KeepsEach m ys stays a b
told_keeps m xs ys stays a b same h = subst (λ l. KeepsEach m l stays a b) same h

-- no cell is none
pub keeps_none : (m : MsgId) (stays : Bool) (s : BTreeSet Watcher) → KeepsEach m [] stays s s
keeps_none m stays s = λ c n. refl

-- where a message was listed at its cells, it is at others, and so others still are
listed_anew : (m : MsgId) (ks : List Cue) (stays : Bool) (here : List Cue) (a b : Agenda) → KeepsEach m ks stays a.watchers b.watchers → ((n : MsgId) → cues b n ≡ cond (is_eq (message_cmp m n)) here (cues a n))
    → ((c : Cue) → cond (is_cue ks c) stays (is_cue (cues a m) c) ≡ is_cue here c) → Watched a → Watched b
listed_anew m ks stays here a b keeps told same listed = λ c n. keeps c n ∙ by c n (is_eq (message_cmp m n)) refl
  where
    and_all : (x : Bool) → (x && true) ≡ x
    and_all true = refl
    and_all false = refl

    by : (c : Cue) (n : MsgId) (e : Bool) → is_eq (message_cmp m n) ≡ e → cond (is_cue ks c && is_eq (message_cmp m n)) stays (watches a c n) ≡ is_cue (cues b n) c
    by c n true e =
        ap (λ x. cond x stays (watches a c n)) (ap (λ x. is_cue ks c && x) e ∙ and_all (is_cue ks c))
        ∙ ap (cond (is_cue ks c) stays) (listed c n ∙ ap (λ k. is_cue (cues a k) c) (sym (exact_messages m n (equal (message_cmp m n) e))))
        ∙ same c ∙ ap (λ l. is_cue l c) (sym (told n ∙ ap (λ x. cond x here (cues a n)) e))
    by c n false e =
        ap (λ x. cond x stays (watches a c n)) (ap (λ x. is_cue ks c && x) e ∙ and_none (is_cue ks c))
        ∙ listed c n ∙ ap (λ l. is_cue l c) (sym (told n ∙ ap (λ x. cond x here (cues a n)) e))

-- no cell tells of it any more
pub unwatched : (m : MsgId) (a b : Agenda) (o : Option (Vec Cue Global)) → o ≡ get message_cmp a.cues m → ((n : MsgId) → get message_cmp b.cues n ≡ cond (is_eq (message_cmp m n)) None (get message_cmp a.cues n))
    → KeepsEach m (cues_if o) false a.watchers b.watchers → b.waiting ≡ a.waiting → b.open ≡ a.open → b.known ≡ a.known → Watches m [] a b
unwatched m a b o was gone keeps waits opens knows = record {
  told = told;
  watched = listed_anew m (cues_if o) false [] a b keeps told (λ c. ap (λ l. cond (is_cue l c) false (is_cue (cues a m) c)) (ap cues_if was) ∙ never (is_cue (cues a m) c));
  waits = waits;
  opens = opens;
  knows = knows;
}
  where
    never : (x : Bool) → cond x false x ≡ false
    never true = refl
    never false = refl

    none_if : (e : Bool) (x : Option (Vec Cue Global)) → cues_if (cond e None x) ≡ cond e [] (cues_if x)
    none_if true x = refl
    none_if false x = refl

    told : (n : MsgId) → cues b n ≡ cond (is_eq (message_cmp m n)) [] (cues a n)
    told n = ap cues_if (gone n) ∙ none_if (is_eq (message_cmp m n)) (get message_cmp a.cues n)

-- where none told of it, these do
pub watched_at : (m : MsgId) (cs : Vec Cue Global) (a b d : Agenda) → Watches m [] a b → KeepsEach m cs.items true b.watchers d.watchers → ((n : MsgId) → get message_cmp d.cues n ≡ cond (is_eq (message_cmp m n)) (Some cs) (get message_cmp b.cues n))
    → d.waiting ≡ b.waiting → d.open ≡ b.open → d.known ≡ b.known → Watches m cs.items a d
watched_at m cs a b d f keeps put waits opens knows = record {
  told = λ n. told n ∙ ap (cond (is_eq (message_cmp m n)) cs.items) (f.told n) ∙ twice (is_eq (message_cmp m n)) (cues a n);
  watched = λ h. listed_anew m cs.items true cs.items b d keeps told (λ c. ap (λ l. cond (is_cue cs.items c) true (is_cue l c)) none ∙ itself (is_cue cs.items c)) (f.watched h);
  waits = waits ∙ f.waits;
  opens = opens ∙ f.opens;
  knows = knows ∙ f.knows;
}
  where
    itself : (x : Bool) → cond x true false ≡ x
    itself true = refl
    itself false = refl

    twice : (e : Bool) (x : List Cue) → cond e cs.items (cond e [] x) ≡ cond e cs.items x
    twice true x = refl
    twice false x = refl

    some_if : (e : Bool) (x : Option (Vec Cue Global)) → cues_if (cond e (Some cs) x) ≡ cond e cs.items (cues_if x)
    some_if true x = refl
    some_if false x = refl

    told : (n : MsgId) → cues d n ≡ cond (is_eq (message_cmp m n)) cs.items (cues b n)
    told n = ap cues_if (put n) ∙ some_if (is_eq (message_cmp m n)) (get message_cmp b.cues n)

    none : cues b m ≡ []
    none = f.told m ∙ ap (λ e. cond e [] (cues a m)) (message_self m)

-- and none do where there are none
pub watched_none : (m : MsgId) (cs : List Cue) (a b : Agenda) → cs ≡ [] → Watches m [] a b → Watches m cs a b
watched_none m cs a b none f = subst (λ l. Watches m l a b) (sym none) f

-- ---- one message

-- what is told of a message by its name
named : {A : Type 0} (P : MsgId → A) (m n : MsgId) → is_eq (message_cmp m n) ≡ true → P m ≡ P n
named P m n h = ap P (exact_messages m n (equal (message_cmp m n) h))

-- it waits as it does in the world, and the cells tell it that do so there
pub placed : (w : World) (m : MsgId) (a b d : Agenda) (o : Option Waits) (cs : List Cue) → o ≡ waits_in w m → cs ≡ cues_in w m → Watches m cs a b → Puts m o b.waiting d.waiting
    → d.watchers ≡ b.watchers → d.cues ≡ b.cues → d.open ≡ b.open → d.known ≡ b.known → Places w (λ n. is_eq (message_cmp m n)) a d
placed w m a b d o cs is tell f puts watchers tells opens knows = record {
  ways = λ n. puts.ways n ∙ ap (λ (q : Waiting). cond (is_eq (message_cmp m n)) o (how q n)) f.waits ∙ chosen _ (is_eq (message_cmp m n)) _ _ _ refl (λ h. is ∙ named (waits_in w) m n h);
  told = λ n. same n ∙ f.told n ∙ chosen _ (is_eq (message_cmp m n)) _ _ _ refl (λ h. tell ∙ named (cues_in w) m n h);
  watched = λ h c n. ap (λ (s : BTreeSet Watcher). is_watcher s c n) watchers ∙ f.watched h c n ∙ ap (λ l. is_cue l c) (sym (same n));
  indexed = λ h. puts.indexed (subst Indexed (sym f.waits) h);
  opens = opens ∙ f.opens;
  knows = knows ∙ f.knows;
}
  where
    same : (n : MsgId) → cues d n ≡ cues b n
    same n = ap (λ (s : BTreeMap MsgId (Vec Cue Global)). cues_if (get message_cmp s n)) tells

-- ---- several

-- notes of views change nothing of messages
told_by_views : (w : World) (r : PromId → VatNo → Bool) (b d : Agenda) → NotesViews w r b d → (m : MsgId) → cues d m ≡ cues b m
told_by_views w r b d g m = ap (λ (s : BTreeMap MsgId (Vec Cue Global)). cues_if (get message_cmp s m)) g.tells

pub watched_by_views : (w : World) (r : PromId → VatNo → Bool) (b d : Agenda) → NotesViews w r b d → Watched b → Watched d
watched_by_views w r b d g h = λ c m. ap (λ (s : BTreeSet Watcher). is_watcher s c m) g.watchers ∙ h c m ∙ ap (λ l. is_cue l c) (sym (told_by_views w r b d g m))

module _ (w : World) where
  -- nothing was noted anew
  pub no_places : (q : MsgId → Bool) (a : Agenda) → ((m : MsgId) → q m ≡ false) → Places w q a a
  no_places q a none = record {
    ways = λ m. sym (ap (λ c. cond c (waits_in w m) (way a m)) (none m));
    told = λ m. sym (ap (λ c. cond c (cues_in w m) (cues a m)) (none m));
    watched = λ h. h;
    indexed = λ h. h;
    opens = refl;
    knows = refl;
  }

  pub no_views : (q : PromId → VatNo → Bool) (a : Agenda) → ((p : PromId) (v : VatNo) → q p v ≡ false) → NotesViews w q a a
  no_views q a none = record {
    waits = refl;
    watchers = refl;
    tells = refl;
    views = λ p v. sym (ap (λ c. cond c (open_view w p v) (has_open a p v)) (none p v));
    learns = λ v p. sym (ap (λ c. cond c (can_learn w v p) (has_known a v p)) (none p v));
  }

  -- notes of two sets
  pub more_places : (q r s : MsgId → Bool) (a b d : Agenda) → Places w q a b → Places w r b d → ((m : MsgId) → (r m || q m) ≡ s m) → Places w s a d
  more_places q r s a b d f g both = record {
    ways = λ m. g.ways m ∙ ap (cond (r m) (waits_in w m)) (f.ways m) ∙ chosen_twice (r m) (q m) _ _ ∙ ap (λ c. cond c (waits_in w m) (way a m)) (both m);
    told = λ m. g.told m ∙ ap (cond (r m) (cues_in w m)) (f.told m) ∙ chosen_twice (r m) (q m) _ _ ∙ ap (λ c. cond c (cues_in w m) (cues a m)) (both m);
    watched = λ h. g.watched (f.watched h);
    indexed = λ h. g.indexed (f.indexed h);
    opens = g.opens ∙ f.opens;
    knows = g.knows ∙ f.knows;
  }

  pub more_views : (q r s : PromId → VatNo → Bool) (a b d : Agenda) → NotesViews w q a b → NotesViews w r b d → ((p : PromId) (v : VatNo) → (r p v || q p v) ≡ s p v) → NotesViews w s a d
  more_views q r s a b d f g both = record {
    waits = g.waits ∙ f.waits;
    watchers = g.watchers ∙ f.watchers;
    tells = g.tells ∙ f.tells;
    views = λ p v. g.views p v ∙ ap (cond (r p v) (open_view w p v)) (f.views p v) ∙ chosen_twice (r p v) (q p v) _ _ ∙ ap (λ c. cond c (open_view w p v) (has_open a p v)) (both p v);
    learns = λ v p. g.learns v p ∙ ap (cond (r p v) (can_learn w v p)) (f.learns v p) ∙ chosen_twice (r p v) (q p v) _ _ ∙ ap (λ c. cond c (can_learn w v p) (has_known a v p)) (both p v);
  }

  -- notes of the same set, told otherwise
  pub told_places : (q s : MsgId → Bool) (a b : Agenda) → Places w q a b → ((m : MsgId) → q m ≡ s m) → Places w s a b
  told_places q s a b f same = record {
    ways = λ m. f.ways m ∙ ap (λ c. cond c (waits_in w m) (way a m)) (same m);
    told = λ m. f.told m ∙ ap (λ c. cond c (cues_in w m) (cues a m)) (same m);
    watched = f.watched;
    indexed = f.indexed;
    opens = f.opens;
    knows = f.knows;
  }

  pub told_views : (q s : PromId → VatNo → Bool) (a b : Agenda) → NotesViews w q a b → ((p : PromId) (v : VatNo) → q p v ≡ s p v) → NotesViews w s a b
  told_views q s a b f same = record {
    waits = f.waits;
    watchers = f.watchers;
    tells = f.tells;
    views = λ p v. f.views p v ∙ ap (λ c. cond c (open_view w p v) (has_open a p v)) (same p v);
    learns = λ v p. f.learns v p ∙ ap (λ c. cond c (can_learn w v p) (has_known a v p)) (same p v);
  }

  -- ---- one cell

  open_stays : (a b : Agenda) → b.open ≡ a.open → (p : PromId) (v : VatNo) → has_open b p v ≡ has_open a p v
  open_stays a b same p v = ap (λ (s : BTreeSet Open). contains open_cmp s (record { promise = p; vat = v })) same

  known_stays : (a b : Agenda) → b.known ≡ a.known → (v : VatNo) (p : PromId) → has_known b v p ≡ has_known a v p
  known_stays a b same v p = ap (λ (s : BTreeSet Known). contains known_cmp s (record { vat = v; promise = p })) same

  -- those of which it tells, and then the message that is in it
  pub message_noted : (m : MsgId) (a b d : Agenda) → Places w (λ n. watches a (cue.Message m) n) a b → Places w (λ n. is_eq (message_cmp m n)) b d → NotesCell w (key.Msg m) a d
  message_noted m a b d f g =
      let h : Places w (stirs a (key.Msg m)) a d = more_places (λ n. watches a (cue.Message m) n) (λ n. is_eq (message_cmp m n)) (stirs a (key.Msg m)) a b d f g (λ n. refl) in
      record { ways = h.ways; told = h.told; watched = h.watched; indexed = h.indexed; views = open_stays a d h.opens; learns = known_stays a d h.knows }

  -- those of which it tells, and then views
  pub views_noted : (k : CellKey) (r : PromId → VatNo → Bool) (a b d : Agenda) → Places w (stirs a k) a b → NotesViews w r b d → ((p : PromId) (v : VatNo) → r p v ≡ shows a k p v) → NotesCell w k a d
  views_noted k r a b d f g same = record {
    ways = λ m. ap (λ (q : Waiting). how q m) g.waits ∙ f.ways m;
    told = λ m. told_by_views w r b d g m ∙ f.told m;
    watched = λ h. watched_by_views w r b d g (f.watched h);
    indexed = λ h. subst Indexed (sym g.waits) (f.indexed h);
    views = λ p v. g.views p v ∙ ap₂ (λ c x. cond c (open_view w p v) x) (same p v) (open_stays a b f.opens p v);
    learns = λ v p. g.learns v p ∙ ap₂ (λ c x. cond c (can_learn w v p) x) (same p v) (known_stays a b f.knows v p);
  }

  -- the views in which a promise is open stay while messages are noted
  pub still_shown : (q : MsgId → Bool) (p : PromId) (a b : Agenda) → Places w q a b → (x : PromId) (v : VatNo) → (is_eq (promise_cmp p x) && has_open b x v) ≡ (is_eq (promise_cmp p x) && has_open a x v)
  still_shown q p a b f x v = ap (λ c. is_eq (promise_cmp p x) && c) (open_stays a b f.opens x v)

  -- it tells of nothing
  pub nothing_noted : (k : CellKey) (a : Agenda) → ((m : MsgId) → stirs a k m ≡ false) → ((p : PromId) (v : VatNo) → shows a k p v ≡ false) → NotesCell w k a a
  nothing_noted k a stirred shown = record {
    ways = λ m. sym (ap (λ c. cond c (waits_in w m) (way a m)) (stirred m));
    told = λ m. sym (ap (λ c. cond c (cues_in w m) (cues a m)) (stirred m));
    watched = λ h. h;
    indexed = λ h. h;
    views = λ p v. sym (ap (λ c. cond c (open_view w p v) (has_open a p v)) (shown p v));
    learns = λ v p. sym (ap (λ c. cond c (can_learn w v p) (has_known a v p)) (shown p v));
  }
