-- Sound sets, by the last writers of their members and by those that stand before an heir.
use Rattle.std.proofs.Common.{◌≡◌, ◌≢◌, ℕ, Bool, true, false, cond, ◌&&◌, ◌||◌, ◌==◌, List, [], ◌∷◌, Option, Some, None, ◌⊎◌, inl, inr, refl, sym, ap, ◌∙◌, eq-eqb, eqb-true}
use Rattle.std.specs.List.{AllByRecursion}
use Rattle.std.proofs.lemmas.Bool.{false≢true, both_ways, or_left, or_right, or_cases, and_from, and_parts, false_from_ne_true}
use Rattle.history.specs.Subject.{Subject, Laws, touches}
use Rattle.history.specs.Journal.{Entry, name_of, caused, live_set, both, Sound, Distinct}
use Rattle.history.specs.Chains.{wrote, last_writer, last_of, is_name, Traced, Chained}
use Rattle.history_consequences.specs.Versions.{is_one, found_as, wrote_over, overtakes}
use Rattle.history_consequences.specs.Sets.{is_there, HasLastWriters, MissesNone, CrossesNone}
use Rattle.history_consequences.proofs.Members.{In, all_in, in_all, any_in, in_any}
use Rattle.history_consequences.proofs.Writers.{not_last, last_in, touched_of, last_is, sound_last, last_sound}
use Rattle.history_consequences.proofs.Closing.{one_named}

-- one of two last writers is told by its name
pub one_is_name : (o : Option ℕ) (n : ℕ) → is_one o (Some n) ≡ is_name o n
one_is_name None n = refl
one_is_name (Some m) n = refl

pub one_same : (o q : Option ℕ) → is_one o q ≡ true → o ≡ q
one_same None None h = refl
one_same None (Some n) h = absurd (false≢true h)
one_same (Some m) None h = absurd (false≢true h)
one_same (Some m) (Some n) h = ap (λ x. Some x) (eqb-true m n h)

pub one_self : (o : Option ℕ) → is_one o o ≡ true
one_self None = refl
one_self (Some n) = eq-eqb n n refl

pub name_same : (o : Option ℕ) (n : ℕ) → is_name o n ≡ true → o ≡ Some n
name_same None n h = absurd (false≢true h)
name_same (Some m) n h = ap (λ x. Some x) (eqb-true m n h)

-- which of two
pub one_of : (x y : Bool) → (x || y) ≡ true → (y ≡ true) ⊎ (x ≡ true)
one_of true y h = inr refl
one_of false y h = inl h

module _ (s : Subject) where
  -- who is there is there among more, and in a greater set
  pub there_more : (t : Entry s → Bool) (o : Option ℕ) (a : Entry s) (es : List (Entry s)) → is_there s t o es ≡ true → is_there s t o (a ∷ es) ≡ true
  there_more t None a es h = refl
  there_more t (Some n) a es h = or_right _ _ h

  pub there_in : (t r : Entry s → Bool) (o : Option ℕ) (es : List (Entry s)) → ((a : Entry s) → t a ≡ true → r a ≡ true) → is_there s t o es ≡ true → is_there s r o es ≡ true
  there_in t r None es f h = refl
  there_in t r (Some n) es f h =
      let a = in_any (λ a. t a && (name_of s a == n)) es h in
      let q = and_parts (t a.0) (name_of s a.0 == n) a.2 in
      any_in (λ a. r a && (name_of s a == n)) es a.0 a.1 (and_from (r a.0) _ (f a.0 q.0) q.1)

  -- who is there and is not the newest is there among the older ones
  pub there_older : (t : Entry s → Bool) (o : Option ℕ) (b : Entry s) (es : List (Entry s)) → is_there s t o (b ∷ es) ≡ true → (t b ≡ true → is_name o (name_of s b) ≡ true → ⊥) → is_there s t o es ≡ true
  there_older t None b es h f = refl
  there_older t (Some n) b es h f = elim (or_cases (t b && (name_of s b == n)) _ h) [
    | inl q ↦ let p = and_parts (t b) (name_of s b == n) q in absurd (f p.0 (eq-eqb n (name_of s b) (sym (eqb-true (name_of s b) n p.1))))
    | inr q ↦ q
  ]

  -- the last writer of a set is there
  pub last_there : (k : s.Key) (t : Entry s → Bool) (es : List (Entry s)) → is_there s t (last_writer s k t es) es ≡ true
  last_there k t [] = refl
  last_there k t (a ∷ es) = choice (t a) (wrote s k a) refl (last_there k t es)
    where
      choice : (x w : Bool) → t a ≡ x → is_there s t (last_writer s k t es) es ≡ true → is_there s t (cond (x && w) (Some (name_of s a)) (last_writer s k t es)) (a ∷ es) ≡ true
      choice true true e ih = or_left _ _ (and_from (t a) _ e (eq-eqb (name_of s a) (name_of s a) refl))
      choice true false e ih = there_more t _ a es ih
      choice false w e ih = there_more t _ a es ih

  -- the members of a set miss none of it
  pub misses_of : (t c : Entry s → Bool) (es : List (Entry s)) → ((a : Entry s) → c a ≡ true → t a ≡ true) → HasLastWriters s t es → MissesNone s t c es
  misses_of t c [] f h = tt
  misses_of t c (e ∷ es) f (h, hs) = (
    λ ce. in_all _ e.lasts (λ p i. ap (λ o. is_there s t o es) (all_in _ e.lasts (h (f e ce)) p i) ∙ last_there p.0 t es),
    misses_of t c es f hs,
  )

module _ (s : Subject) (l : Laws s) where
  -- what an entry has of last writers is not the name of what is newer
  pub last_apart : (k : s.Key) (n : ℕ) (es : List (Entry s)) → Chained s es → AllByRecursion (λ a. name_of s a ≢ n) es → (f : Entry s) → In f es → touches s f.foot k ≡ true → is_name (last_of s f k) n ≡ false
  last_apart k n [] g h f i touched = absurd i
  last_apart k n (x ∷ es) (g, gs) (h, hs) f (inl e) touched =
      ap (λ y. is_name (last_of s y k) n) (sym e) ∙ ap (λ o. is_name o n) (last_is s l (λ q. last_writer s q (caused s x) es) x g.cells g.lasts k (ap (λ y. touches s y.foot k) e ∙ touched)) ∙ not_last s k (caused s x) n es hs
  last_apart k n (x ∷ es) (g, gs) (h, hs) f (inr i) touched = last_apart k n es gs hs f i touched

  pub last_not_own : (k : s.Key) (n : ℕ) (x : Entry s) (es : List (Entry s)) → Traced s x es → AllByRecursion (λ a. name_of s a ≢ n) es → touches s x.foot k ≡ true → is_name (last_of s x k) n ≡ false
  last_not_own k n x es g h touched = ap (λ o. is_name o n) (last_is s l (λ q. last_writer s q (caused s x) es) x g.cells g.lasts k touched) ∙ not_last s k (caused s x) n es h

  -- no member that wrote a cell found it as the newest member left it
  pub heir_not_last : (k : s.Key) (t : Entry s → Bool) (es : List (Entry s)) → Distinct s es → Chained s es → (f : Entry s) → In f es → t f ≡ true → wrote s k f ≡ true → is_one (last_of s f k) (last_writer s k t es) ≡ false
  heir_not_last k t [] d g f i tf wf = absurd i
  heir_not_last k t (b ∷ es) (d, ds) (g, gs) f i tf wf = go (t b) (wrote s k b) refl refl i (λ j. heir_not_last k t es ds gs f j tf wf)
    where
      go : (x w : Bool) → t b ≡ x → wrote s k b ≡ w → In f (b ∷ es) → (In f es → is_one (last_of s f k) (last_writer s k t es) ≡ false)
          → is_one (last_of s f k) (cond (x && w) (Some (name_of s b)) (last_writer s k t es)) ≡ false
      go true true tb wb (inl e) ih = one_is_name (last_of s f k) (name_of s b) ∙ ap (λ y. is_name (last_of s y k) (name_of s b)) (sym e) ∙ last_not_own k (name_of s b) b es g d (touched_of s l k b wb)
      go true true tb wb (inr j) ih = one_is_name (last_of s f k) (name_of s b) ∙ last_apart k (name_of s b) es gs d f j (touched_of s l k f wf)
      go true false tb wb (inl e) ih = absurd (both_ways _ (sym (ap (wrote s k) e) ∙ wb) wf)
      go true false tb wb (inr j) ih = ih j
      go false w tb wb (inl e) ih = absurd (both_ways _ (sym (ap t e) ∙ tb) tf)
      go false w tb wb (inr j) ih = ih j

  -- what an entry that overtakes has
  pub overtakes_at : (f e : Entry s) → overtakes s f e ≡ true → (p : s.Key × Option ℕ) × In p e.lasts × (touches s f.foot p.0 ≡ true) × (last_of s f p.0 ≡ p.1) × (wrote s p.0 f ≡ true)
  overtakes_at f e h =
      let r = in_any (λ p. wrote_over s p f) e.lasts h in
      let q = and_parts (found_as s r.0 f) (wrote s (r.0).0 f) r.2 in
      let u = and_parts (touches s f.foot (r.0).0) (is_one (last_of s f (r.0).0) (r.0).1) q.0 in
      (r.0, r.1, u.0, one_same (last_of s f (r.0).0) (r.0).1 u.1, q.1)

  pub at_overtakes : (f e : Entry s) (p : s.Key × Option ℕ) → In p e.lasts → last_of s f p.0 ≡ p.1 → wrote s p.0 f ≡ true → overtakes s f e ≡ true
  at_overtakes f e p i is w = any_in (λ p. wrote_over s p f) e.lasts p i
      (and_from (found_as s p f) _ (and_from (touches s f.foot p.0) _ (touched_of s l p.0 f w) (ap (λ o. is_one o p.1) is ∙ one_self p.1)) w)

  -- no older member overtakes one that has the last writers of the set
  pub not_overtaken : (t : Entry s → Bool) (e : Entry s) (es : List (Entry s)) → Distinct s es → Chained s es → AllByRecursion (λ p. p.1 ≡ last_writer s p.0 t es) e.lasts
      → (f : Entry s) → In f es → t f ≡ true → overtakes s f e ≡ false
  not_overtaken t e es d g lasts f i tf = false_from_ne_true _ (λ h.
      let r = overtakes_at f e h in
      both_ways _ (heir_not_last (r.0).0 t es d g f i tf r.4) (ap (is_one (last_of s f (r.0).0)) (sym (all_in _ e.lasts lasts r.0 r.1)) ∙ ap (λ o. is_one o (r.0).1) r.3 ∙ one_self (r.0).1))

  pub crosses_of : (t c : Entry s → Bool) (es : List (Entry s)) → Distinct s es → Chained s es → HasLastWriters s t es → CrossesNone s t c es
  crosses_of t c [] d g h = tt
  crosses_of t c (e ∷ es) (d, ds) (g, gs) (h, hs) = (λ te. in_all _ es (λ f i tf some. not_overtaken t e es ds gs (h te) f i tf), crosses_of t c es ds gs hs)

  -- of the members of a set that wrote a cell, the last is this one, or one of them wrote over what this one left
  pub last_or_heir : (k : s.Key) (t : Entry s → Bool) (o : Option ℕ) (es : List (Entry s)) → Chained s es → HasLastWriters s t es → is_there s t o es ≡ true
      → ((a : Entry s) → In a es → is_name o (name_of s a) ≡ true → wrote s k a ≡ true)
      → (last_writer s k t es ≡ o) ⊎ ((f : Entry s) × In f es × (t f ≡ true) × (wrote s k f ≡ true) × (last_of s f k ≡ o))
  last_or_heir k t None [] g h there w = inl refl
  last_or_heir k t (Some n) [] g h there w = absurd (false≢true there)
  last_or_heir k t o (b ∷ es) (g, gs) (h, hs) there w = go (t b) (wrote s k b) refl refl (λ q. last_or_heir k t o es gs hs q (λ a i. w a (inr i)))
    where
      go : (x y : Bool) → t b ≡ x → wrote s k b ≡ y
          → (is_there s t o es ≡ true → (last_writer s k t es ≡ o) ⊎ ((f : Entry s) × In f es × (t f ≡ true) × (wrote s k f ≡ true) × (last_of s f k ≡ o)))
          → (cond (x && y) (Some (name_of s b)) (last_writer s k t es) ≡ o) ⊎ ((f : Entry s) × In f (b ∷ es) × (t f ≡ true) × (wrote s k f ≡ true) × (last_of s f k ≡ o))
      go true true tb wb ih = named (is_name o (name_of s b)) refl
        where
          named : (z : Bool) → is_name o (name_of s b) ≡ z → (Some (name_of s b) ≡ o) ⊎ ((f : Entry s) × In f (b ∷ es) × (t f ≡ true) × (wrote s k f ≡ true) × (last_of s f k ≡ o))
          named true q = inl (sym (name_same o (name_of s b) q))
          named false q = elim (ih (there_older s t o b es there (λ _ is. both_ways _ q is))) [
            | inl r ↦ inr (b, inl refl, tb, wb, last_is s l (λ c. last_writer s c t es) b g.cells (h tb) k (touched_of s l k b wb) ∙ r)
            | inr r ↦ inr (r.0, inr r.1, r.2, r.3, r.4)
          ]
      go true false tb wb ih = elim (ih (there_older s t o b es there (λ _ is. both_ways _ wb (w b (inl refl) is)))) [
        | inl r ↦ inl r
        | inr r ↦ inr (r.0, inr r.1, r.2, r.3, r.4)
      ]
      go false y tb wb ih = elim (ih (there_older s t o b es there (λ is _. both_ways _ tb is))) [
        | inl r ↦ inl r
        | inr r ↦ inr (r.0, inr r.1, r.2, r.3, r.4)
      ]

  -- the last writer that an entry has of a cell wrote it
  pub last_wrote : (e : Entry s) (es : List (Entry s)) → Distinct s es → Traced s e es → (p : s.Key × Option ℕ) → In p e.lasts → (a : Entry s) → In a es → is_name p.1 (name_of s a) ≡ true → wrote s p.0 a ≡ true
  last_wrote e es d g p i a j is =
      let b = last_in s p.0 (caused s e) es (name_of s a) (sym (ap (λ o. is_name o (name_of s a)) (all_in _ e.lasts g.lasts p i)) ∙ is) in
      ap (wrote s p.0) (sym (one_named s es d b.0 a b.1 j b.4)) ∙ b.3

-- REDO: what is live is sound together with a set
module _ (s : Subject) (l : Laws s) (t r c : Entry s → Bool) where
  -- t is the set and what is live, r is what is live
  module _ (one : (a : Entry s) → t a ≡ true → (c a ≡ true) ⊎ (r a ≡ true)) (other : (a : Entry s) → r a ≡ true → t a ≡ true) where
    pub all_there : (e : Entry s) (es : List (Entry s)) → (c e ≡ true → AllByRecursion (λ p. is_there s t p.1 es ≡ true) e.lasts) → (r e ≡ true → AllByRecursion (λ p. p.1 ≡ last_writer s p.0 r es) e.lasts)
        → (c e ≡ true) ⊎ (r e ≡ true) → AllByRecursion (λ p. is_there s t p.1 es ≡ true) e.lasts
    all_there e es h g (inl ce) = h ce
    all_there e es h g (inr re) = in_all _ e.lasts (λ p i. there_in s r t p.1 es other (ap (λ o. is_there s r o es) (all_in _ e.lasts (g re) p i) ∙ last_there s p.0 r es))

    pub has_last : (es : List (Entry s)) → Distinct s es → Chained s es → HasLastWriters s r es → MissesNone s t c es → CrossesNone s t c es → HasLastWriters s t es
    has_last [] d g live m x = tt
    has_last (e ∷ es) (d, ds) (g, gs) (live, lives) (m, ms) (x, xs) = told (has_last es ds gs lives ms xs)
      where
        -- an older member that overtakes this one
        crossed : (te : t e ≡ true) → (f : Entry s) → In f es → t f ≡ true → overtakes s f e ≡ true → ⊥
        crossed te f i tf over = by (c e || c f) refl
          where
            by : (b : Bool) → (c e || c f) ≡ b → ⊥
            by true q = both_ways _ (all_in _ es (x te) f i tf q) over
            by false q = elim (one e te) [
              | inl ce ↦ both_ways _ q (or_left _ _ ce)
              | inr re ↦ elim (one f tf) [
                | inl cf ↦ both_ways _ q (or_right (c e) _ cf)
                | inr rf ↦ both_ways _ (not_overtaken s l r e es ds gs (live re) f i rf) over
              ]
            ]

        told : HasLastWriters s t es → HasLastWriters s t (e ∷ es)
        told ih = (
          λ te. in_all _ e.lasts (λ p i. elim (last_or_heir s l p.0 t p.1 es gs ih (all_in _ e.lasts (all_there e es m live (one e te)) p i) (last_wrote s l e es ds g p i)) [
            | inl q ↦ sym q
            | inr q ↦ absurd (crossed te q.0 q.1 q.2 (at_overtakes s l q.0 e p i q.4 q.3))
          ]),
          ih,
        )

module _ (s : Subject) (l : Laws s) (c : Entry s → Bool) where
  pub redo_exact : (es : List (Entry s)) → Distinct s es → Chained s es → Sound s (live_set s) es
      → (Sound s (both (live_set s) c) es → MissesNone s (both (live_set s) c) c es × CrossesNone s (both (live_set s) c) c es)
      × (MissesNone s (both (live_set s) c) c es × CrossesNone s (both (live_set s) c) c es → Sound s (both (live_set s) c) es)
  redo_exact es d g live = (
    λ h. (misses_of s (both (live_set s) c) c es (λ a. or_right a.live (c a)) (sound_last s l (both (live_set s) c) es g h), crosses_of s l (both (live_set s) c) c es d g (sound_last s l (both (live_set s) c) es g h)),
    λ h. last_sound s l (both (live_set s) c) es d g
        (has_last s l (both (live_set s) c) (live_set s) c (λ a. one_of a.live (c a)) (λ a q. or_left a.live (c a) q) es d g (sound_last s l (live_set s) es g live) h.0 h.1),
  )
