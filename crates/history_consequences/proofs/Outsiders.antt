-- The first outsider that comes of a member is found along the heirs of what the member wrote.
use Rattle.std.proofs.Common.{◌≡◌, ℕ, Bool, true, false, cond, ◌&&◌, ◌==◌, not, List, [], ◌∷◌, ◌++◌, Option, Some, None, ◌⊎◌, inl, inr, refl, sym, ap, ap₂, ◌∙◌, eq-eqb, eqb-true, subst}
use Rattle.std.specs.List.{list_any, AllByRecursion}
use Rattle.std.proofs.lemmas.Bool.{false≢true, both_ways, or_left, or_right, or_cases, and_from, and_parts, and_right, false_from_ne_true, not_from_false}
use Rattle.history.specs.Subject.{Subject, Laws, touches, meets}
use Rattle.history.specs.Journal.{Entry, name_of, is_in, caused, Sound, Ordered, Distinct}
use Rattle.history.specs.Chains.{wrote, last_writer, last_of, is_name, chain, Chained}
use Rattle.history.proofs.Chaining.{causes_on_chains, chain_followed}
use Rattle.history_consequences.specs.Sets.{HasLastWriters}
use Rattle.history_consequences.specs.Refusals.{oldest, consequence, is_of, lineage, outsider}
use Rattle.history_consequences.proofs.Members.{In, all_in, any_in, in_any}
use Rattle.history_consequences.proofs.Writers.{not_false, found_in, touched_of, last_is, sound_last}
use Rattle.history_consequences.proofs.Closing.{newest}
use Rattle.history_consequences.proofs.Crossing.{last_apart, last_not_own}
use Rattle.history_consequences.proofs.Indexing.{same_from}
use Rattle.history_consequences.proofs.Settling.{item_at}
use Rattle.history_consequences.proofs.Missing.{head_named}
use Rattle.history_consequences.proofs.Oldest.{oldest_none, oldest_more}

pub of_some : (ns : List ℕ) (o : Option ℕ) → is_of ns o ≡ true → (n : ℕ) × (o ≡ Some n) × (is_in ns n ≡ true)
of_some ns None h = absurd (false≢true h)
of_some ns (Some n) h = (n, refl, h)

in_split : {A : Type 0} (es : List A) (a : A) → In a es → (xs : List A) × (ys : List A) × (es ≡ xs ++ a ∷ ys)
in_split [] a i = absurd i
in_split (x ∷ es) a (inl e) = ([], es, ap (λ y. y ∷ es) e)
in_split (x ∷ es) a (inr i) = let r = in_split es a i in (x ∷ r.0, r.1, ap (λ ys. x ∷ ys) r.2)

module _ (s : Subject) (l : Laws s) (c : Entry s → Bool) (k : s.Key) (n : ℕ) where
  -- the line begins with the name, and a name of it stays in it
  pub starts : (es : List (Entry s)) → is_in (lineage s c k n es) n ≡ true
  starts [] = or_left _ _ (eq-eqb n n refl)
  starts (r ∷ es) = stays (c r && (wrote s k r && is_of (lineage s c k n es) (last_of s r k))) (starts es)
    where
      stays : (b : Bool) → is_in (lineage s c k n es) n ≡ true → is_in (cond b (name_of s r ∷ lineage s c k n es) (lineage s c k n es)) n ≡ true
      stays true h = or_right (name_of s r == n) _ h
      stays false h = h

  pub kept : (r : Entry s) (es : List (Entry s)) (m : ℕ) → is_in (lineage s c k n es) m ≡ true → is_in (lineage s c k n (r ∷ es)) m ≡ true
  kept r es m h = by (c r && (wrote s k r && is_of (lineage s c k n es) (last_of s r k)))
    where
      by : (b : Bool) → is_in (cond b (name_of s r ∷ lineage s c k n es) (lineage s c k n es)) m ≡ true
      by true = or_right (name_of s r == m) _ h
      by false = h

  -- a name of it is the newest one's, where that is a member that came of one of it, or is in it without that
  pub parts_of : (r : Entry s) (es : List (Entry s)) (m : ℕ) → is_in (lineage s c k n (r ∷ es)) m ≡ true
      → ((name_of s r ≡ m) × (wrote s k r ≡ true) × (is_of (lineage s c k n es) (last_of s r k) ≡ true)) ⊎ (is_in (lineage s c k n es) m ≡ true)
  parts_of r es m h = by (c r && (wrote s k r && is_of (lineage s c k n es) (last_of s r k))) refl h
    where
      by : (b : Bool) → (c r && (wrote s k r && is_of (lineage s c k n es) (last_of s r k))) ≡ b → is_in (cond b (name_of s r ∷ lineage s c k n es) (lineage s c k n es)) m ≡ true
          → ((name_of s r ≡ m) × (wrote s k r ≡ true) × (is_of (lineage s c k n es) (last_of s r k) ≡ true)) ⊎ (is_in (lineage s c k n es) m ≡ true)
      by true e q = elim (or_cases (name_of s r == m) _ q) [
        | inl u ↦ let v = and_parts (wrote s k r) _ (and_parts (c r) _ e).1 in inl (eqb-true (name_of s r) m u, v.0, v.1)
        | inr u ↦ inr u
      ]
      by false e q = inr q

  -- a member that wrote the cell as one of the line had left it is of the line
  pub grows : (es : List (Entry s)) → Distinct s es → Chained s es → (h : Entry s) → In h es → c h ≡ true → wrote s k h ≡ true → is_of (lineage s c k n es) (last_of s h k) ≡ true → is_in (lineage s c k n es) (name_of s h) ≡ true
  grows [] d g h i ch wh of = absurd i
  grows (r ∷ es) (d, ds) (g, gs) h i ch wh of = go i (λ j o. grows es ds gs h j ch wh o)
    where
      older : is_name (last_of s h k) (name_of s r) ≡ false → is_of (lineage s c k n es) (last_of s h k) ≡ true
      older apart = at (last_of s h k) apart of
        where
          at : (o : Option ℕ) → is_name o (name_of s r) ≡ false → is_of (lineage s c k n (r ∷ es)) o ≡ true → is_of (lineage s c k n es) o ≡ true
          at None a q = absurd (false≢true q)
          at (Some m) a q = elim (parts_of r es m q) [
            | inl u ↦ absurd (both_ways _ a (eq-eqb m (name_of s r) (sym u.0)))
            | inr u ↦ u
          ]

      go : In h (r ∷ es) → (In h es → is_of (lineage s c k n es) (last_of s h k) ≡ true → is_in (lineage s c k n es) (name_of s h) ≡ true) → is_in (lineage s c k n (r ∷ es)) (name_of s h) ≡ true
      go (inl e) ih =
          let o = older (ap (λ y. is_name (last_of s y k) (name_of s r)) (sym e) ∙ last_not_own s l k (name_of s r) r es g d (ap (λ y. touches s y.foot k) e ∙ touched_of s l k h wh)) in
          ap (λ b. is_in (cond b (name_of s r ∷ lineage s c k n es) (lineage s c k n es)) (name_of s h))
          (and_from _ _ (ap c e ∙ ch) (and_from _ _ (ap (wrote s k) e ∙ wh) (ap (λ y. is_of (lineage s c k n es) (last_of s y k)) e ∙ o)))
          ∙ head_named (name_of s r) (lineage s c k n es) (name_of s h) (ap (name_of s) e)
      go (inr j) ih = kept r es (name_of s h) (ih j (older (last_apart s l k (name_of s r) es gs d h j (touched_of s l k h wh))))

-- what is found along the line comes of the entry
module _ (s : Subject) (l : Laws s) (c : Entry s → Bool) (whole : List (Entry s)) (d : Distinct s whole) (ord : Ordered s whole) (own : AllByRecursion (λ a. caused s a a ≡ false) whole) (all : Chained s whole) where
  follow : (k : s.Key) (a : Entry s) → In a whole → chain s k (Some (name_of s a)) whole ≡ name_of s a ∷ chain s k (last_of s a k) whole
  follow k a i =
      let r = in_split whole a i in
      subst (λ es. chain s k (Some (name_of s a)) es ≡ name_of s a ∷ chain s k (last_of s a k) es) (sym r.2)
      (chain_followed s l k r.0 r.1 a (subst (Distinct s) r.2 d) (subst (Chained s) r.2 all))

  on_line : (k : s.Key) (e : Entry s) → In e whole → (fs : List (Entry s)) → ((x : Entry s) → In x fs → In x whole) → (m : ℕ) → is_in (lineage s c k (name_of s e) fs) m ≡ true
      → is_in (chain s k (Some m) whole) (name_of s e) ≡ true
  on_line k e i [] sub m h = elim (or_cases (name_of s e == m) _ h) [
    | inl q ↦ subst (λ x. is_in (chain s k (Some x) whole) (name_of s e) ≡ true) (eqb-true (name_of s e) m q) (ap (λ ns. is_in ns (name_of s e)) (follow k e i) ∙ head_named (name_of s e) (chain s k (last_of s e k) whole) (name_of s e) refl)
    | inr q ↦ absurd (false≢true q)
  ]
  on_line k e i (x ∷ fs) sub m h = elim (parts_of s l c k (name_of s e) x fs m h) [
    | inl q ↦ let o = of_some (lineage s c k (name_of s e) fs) (last_of s x k) q.2 in
        subst (λ y. is_in (chain s k (Some y) whole) (name_of s e) ≡ true) q.0
        (ap (λ ns. is_in ns (name_of s e)) (follow k x (sub x (inl refl))) ∙ or_right (name_of s x == name_of s e) _ (ap (λ p. is_in (chain s k p whole) (name_of s e)) o.1 ∙ on_line k e i fs (λ y j. sub y (inr j)) o.0 o.2))
    | inr q ↦ on_line k e i fs (λ y j. sub y (inr j)) m q
  ]

  pub line_caused : (e r : Entry s) → In e whole → In r whole → (k : s.Key) → touches s r.foot k ≡ true → is_of (lineage s c k (name_of s e) whole) (last_of s r k) ≡ true → caused s r e ≡ true
  line_caused e r i j k touched h =
      let o = of_some (lineage s c k (name_of s e) whole) (last_of s r k) h in
      let p = item_at s l whole all r j k touched in
      all_in _ whole (all_in _ whole (causes_on_chains s l whole d ord own all) r j) e i
      ∙ any_in (λ p. is_in (chain s p.0 p.1 whole) (name_of s e)) r.lasts p.0 p.1 (ap₂ (λ q w. is_in (chain s q w whole) (name_of s e)) (sym p.2) (p.3 ∙ o.1) ∙ on_line k e i whole (λ x u. u) o.0 o.2)

  -- THE FIRST OUTSIDER
  module _ (t : Entry s → Bool) (e : Entry s) (te : t e ≡ true) where
    abbrev comes : Entry s → Bool
    comes r = t r && (not (c r) && caused s r e)

    abbrev found : Entry s → Bool
    found r = t r && (not (c r) && list_any (λ w. touches s r.foot w.0 && is_of (lineage s c w.0 (name_of s e) whole) (last_of s r w.0)) e.foot.writes)

    found_comes : In e whole → (r : Entry s) → In r whole → found r ≡ true → comes r ≡ true
    found_comes i r j h =
        let u = and_parts (t r) _ h in
        let v = and_parts (not (c r)) _ u.1 in
        let w = in_any (λ w. touches s r.foot w.0 && is_of (lineage s c w.0 (name_of s e) whole) (last_of s r w.0)) e.foot.writes v.1 in
        let x = and_parts (touches s r.foot (w.0).0) _ w.2 in
        and_from _ _ u.0 (and_from _ _ v.0 (line_caused e r i j (w.0).0 x.0 x.1))

    -- where nothing of these came, those that wrote a cell after the entry are of the line
    lined : (fs : List (Entry s)) → ((x : Entry s) → In x fs → In x whole) → In e fs → Ordered s fs → AllByRecursion (λ a. caused s a a ≡ false) fs → Chained s fs → Sound s t fs → HasLastWriters s t fs
        → ((x : Entry s) → In x fs → comes x ≡ false) → (k : s.Key) → wrote s k e ≡ true → (h : Entry s) → In h fs → t h ≡ true → wrote s k h ≡ true → caused s h e ≡ true
        → is_in (lineage s c k (name_of s e) whole) (name_of s h) ≡ true
    lined [] sub i o w gs sound lasts none k we h j th wh cause = absurd i
    lined (x ∷ fs) sub (inl p) (o, os) (w, ws) gs sound lasts none k we h (inl q) th wh cause = absurd (both_ways _ w (ap₂ (λ u v. caused s u v) q p ∙ cause))
    lined (x ∷ fs) sub (inl p) (o, os) (w, ws) gs sound lasts none k we h (inr j) th wh cause = absurd (both_ways _ (all_in _ fs o h j) (ap (caused s h) p ∙ cause))
    lined (x ∷ fs) sub (inr i) (o, os) (w, ws) (g, gs) (causes, sound) (last, lasts) none k we h (inr j) th wh cause =
        lined fs (λ y u. sub y (inr u)) i os ws gs sound lasts (λ y u. none y (inr u)) k we h j th wh cause
    lined (x ∷ fs) sub (inr i) (o, os) (w, ws) (g, gs) (causes, sound) (last, lasts) none k we h (inl q) th wh cause =
        let n = newest s l k t fs sound e i te we in
        let is : last_of s h k ≡ Some (name_of s n.0) = ap (λ y. last_of s y k) (sym q) ∙ last_is s l (λ b. last_writer s b t fs) x g.cells (last (ap t q ∙ th)) k (ap (λ y. touches s y.foot k) q ∙ touched_of s l k h wh) ∙ n.4 in
        grows s l c k (name_of s e) whole d all h (sub h (inl q)) member wh (ap (is_of (lineage s c k (name_of s e) whole)) is ∙ elim n.5 [
          | inl u ↦ ap (λ y. is_in (lineage s c k (name_of s e) whole) (name_of s y)) u ∙ starts s l c k (name_of s e) whole
          | inr u ↦ lined fs (λ y v. sub y (inr v)) i os ws gs sound lasts (λ y v. none y (inr v)) k we n.0 n.1 n.2 n.3 u
        ])
      where
        member : c h ≡ true
        member = not_false (c h) (λ out. both_ways _ (none h (inl q)) (and_from _ _ th (and_from _ _ (not_from_false _ out) cause)))

    along : In e whole → (fs : List (Entry s)) → ((x : Entry s) → In x fs → In x whole) → In e fs → Ordered s fs → AllByRecursion (λ a. caused s a a ≡ false) fs → Chained s fs → Sound s t fs → HasLastWriters s t fs
        → oldest s comes fs ≡ oldest s found fs
    along at [] sub i o w gs sound lasts = absurd i
    along at (x ∷ fs) sub (inl p) (o, os) (w, ws) gs sound lasts = oldest_none s comes (x ∷ fs) never ∙ sym (oldest_none s found (x ∷ fs) (λ a j. false_from_ne_true _ (λ h. both_ways _ (never a j) (found_comes at a (sub a j) h))))
      where
        never : (a : Entry s) → In a (x ∷ fs) → comes a ≡ false
        never a (inl q) = and_right (t a) _ (and_right (not (c a)) _ (ap₂ (λ u v. caused s u v) (sym q) (sym p) ∙ w))
        never a (inr j) = and_right (t a) _ (and_right (not (c a)) _ (ap (caused s a) (sym p) ∙ all_in _ fs o a j))
    along at (x ∷ fs) sub (inr i) (o, os) (w, ws) (g, gs) (causes, sound) (last, lasts) =
        oldest_more s comes found x fs (along at fs (λ y j. sub y (inr j)) i os ws gs sound lasts) (λ none. same_from _ _ (head none) (found_comes at x (sub x (inl refl))))
      where
        head : ((a : Entry s) → In a fs → comes a ≡ false) → comes x ≡ true → found x ≡ true
        head none h =
            let u = and_parts (t x) _ h in
            let v = and_parts (not (c x)) (caused s x e) u.1 in
            let m = and_parts (t e) (meets s e.foot x.foot) (sym (all_in _ fs (causes u.0) e i) ∙ v.1) in
            let q = in_any (λ w. touches s x.foot w.0) e.foot.writes m.1 in
            let we = found_in s l q.0 e.foot.writes q.1 in
            let n = newest s l (q.0).0 t fs sound e i te we in
            let is : last_of s x (q.0).0 ≡ Some (name_of s n.0) = last_is s l (λ b. last_writer s b t fs) x g.cells (last u.0) (q.0).0 q.2 ∙ n.4 in
            and_from _ _ u.0 (and_from _ _ v.0 (any_in (λ w. touches s x.foot w.0 && is_of (lineage s c w.0 (name_of s e) whole) (last_of s x w.0)) e.foot.writes q.0 q.1 (and_from _ _ q.2 (
            ap (is_of (lineage s c (q.0).0 (name_of s e) whole)) is ∙ elim n.5 [
              | inl y ↦ ap (λ z. is_in (lineage s c (q.0).0 (name_of s e) whole) (name_of s z)) y ∙ starts s l c (q.0).0 (name_of s e) whole
              | inr y ↦ lined fs (λ z j. sub z (inr j)) i os ws gs sound lasts none (q.0).0 we n.0 n.1 n.2 n.3 y
            ]))))

    pub first_outsider : In e whole → Sound s t whole → consequence s t c e whole ≡ outsider s t c e whole
    first_outsider i sound = along i whole (λ x j. j) i ord own all sound (sound_last s l t whole all sound)
