-- What the base left in a cell, told by the open entries.
use Rattle.std.proofs.Common.{◌≡◌, ℕ, Bool, true, false, cond, ◌&&◌, ◌==◌, List, [], ◌∷◌, ◌++◌, Option, Some, None, ◌⊎◌, inl, inr, refl, sym, ap, ◌∙◌, eq-eqb, eqb-true, subst}
use Rattle.std.specs.List.{list_any}
use Rattle.std.proofs.lemmas.Bool.{false≢true, both_ways, and_from, and_parts, or_parts, false_from_ne_true}
use Rattle.history.specs.Subject.{Subject, Laws, touches}
use Rattle.history.specs.Journal.{Entry, name_of, caused, Distinct}
use Rattle.history.specs.Chains.{wrote, last_writer, last_of, is_name, Traced, Chained}
use Rattle.history_consequences.specs.Versions.{is_one, found_as, wrote_over}
use Rattle.history_consequences.specs.Sets.{is_there, HasLastWriters}
use Rattle.history_consequences.specs.Index.{is_among}
use Rattle.history_consequences.proofs.Members.{In, all_in, any_in, none_in}
use Rattle.history_consequences.proofs.Writers.{last_in, last_is, touched_of}
use Rattle.history_consequences.proofs.Closing.{one_named}
use Rattle.history_consequences.proofs.Crossing.{one_self, heir_not_last, last_or_heir}
use Rattle.history_consequences.proofs.Indexing.{in_parts}
use Rattle.history_consequences.proofs.Settling.{parts_apart}

module _ (s : Subject) where
  -- an entry is traced among these that are older
  older_of : (es : List (Entry s)) → Chained s es → (r : Entry s) → In r es → (older : List (Entry s)) × Traced s r older × ((x : Entry s) → In x older → In x es)
  older_of [] g r i = absurd i
  older_of (x ∷ es) (g, gs) r (inl e) = (es, subst (λ y. Traced s y es) e g, λ y j. inr j)
  older_of (x ∷ es) (g, gs) r (inr i) = let o = older_of es gs r i in (o.0, o.1, λ y j. inr (o.2 y j))

  -- the last writer of two parts is one of the newer part, or that of the older part
  last_parts : (k : s.Key) (t : Entry s → Bool) (xs ys : List (Entry s))
      → ((b : Entry s) × In b xs × (t b ≡ true) × (wrote s k b ≡ true) × (last_writer s k t (xs ++ ys) ≡ Some (name_of s b))) ⊎ (last_writer s k t (xs ++ ys) ≡ last_writer s k t ys)
  last_parts k t [] ys = inr refl
  last_parts k t (x ∷ xs) ys = go (t x) (wrote s k x) refl refl (last_parts k t xs ys)
    where
      go : (u w : Bool) → t x ≡ u → wrote s k x ≡ w
          → ((b : Entry s) × In b xs × (t b ≡ true) × (wrote s k b ≡ true) × (last_writer s k t (xs ++ ys) ≡ Some (name_of s b))) ⊎ (last_writer s k t (xs ++ ys) ≡ last_writer s k t ys)
          → ((b : Entry s) × In b (x ∷ xs) × (t b ≡ true) × (wrote s k b ≡ true) × (cond (u && w) (Some (name_of s x)) (last_writer s k t (xs ++ ys)) ≡ Some (name_of s b)))
          ⊎ (cond (u && w) (Some (name_of s x)) (last_writer s k t (xs ++ ys)) ≡ last_writer s k t ys)
      go true true tx wx ih = inl (x, inl refl, tx, wx, refl)
      go true false tx wx (inl r) = inl (r.0, inr r.1, r.2, r.3, r.4)
      go true false tx wx (inr q) = inr q
      go false w tx wx (inl r) = inl (r.0, inr r.1, r.2, r.3, r.4)
      go false w tx wx (inr q) = inr q

  pub older_last : (t : Entry s → Bool) (xs ys : List (Entry s)) → HasLastWriters s t (xs ++ ys) → HasLastWriters s t ys
  older_last t [] ys h = h
  older_last t (x ∷ xs) ys (h, hs) = older_last t xs ys hs

  older_chained : (xs ys : List (Entry s)) → Chained s (xs ++ ys) → Chained s ys
  older_chained [] ys h = h
  older_chained (x ∷ xs) ys (h, hs) = older_chained xs ys hs

  older_distinct : (xs ys : List (Entry s)) → Distinct s (xs ++ ys) → Distinct s ys
  older_distinct [] ys h = h
  older_distinct (x ∷ xs) ys (h, hs) = older_distinct xs ys hs

module _ (s : Subject) (l : Laws s) (k : s.Key) (t : Entry s → Bool) where
  -- what a member found a cell as, if no member of the newer part wrote it before, is what the older part left
  pub base_seen : (xs ys : List (Entry s)) → Chained s (xs ++ ys) → HasLastWriters s t (xs ++ ys) → (r : Entry s) → In r xs → t r ≡ true → touches s r.foot k ≡ true
      → is_among s (last_of s r k) xs ≡ false → last_of s r k ≡ last_writer s k t ys
  base_seen [] ys g h r i tr touched none = absurd i
  base_seen (x ∷ xs) ys (g, gs) (h, hs) r (inl e) tr touched none = go (last_parts s k t xs ys)
    where
      seen : last_of s r k ≡ last_writer s k t (xs ++ ys)
      seen = ap (λ y. last_of s y k) (sym e) ∙ last_is s l (λ q. last_writer s q t (xs ++ ys)) x g.cells (h (ap t e ∙ tr)) k (ap (λ y. touches s y.foot k) e ∙ touched)

      go : ((b : Entry s) × In b xs × (t b ≡ true) × (wrote s k b ≡ true) × (last_writer s k t (xs ++ ys) ≡ Some (name_of s b))) ⊎ (last_writer s k t (xs ++ ys) ≡ last_writer s k t ys)
          → last_of s r k ≡ last_writer s k t ys
      go (inl b) = absurd (both_ways _ none (any_in (λ y. is_name (last_of s r k) (name_of s y)) (x ∷ xs) b.0 (inr b.1) (ap (λ o. is_name o (name_of s b.0)) (seen ∙ b.4) ∙ eq-eqb (name_of s b.0) (name_of s b.0) refl)))
      go (inr q) = seen ∙ q
  base_seen (x ∷ xs) ys (g, gs) (h, hs) r (inr i) tr touched none = base_seen xs ys gs hs r i tr touched (or_parts (is_name (last_of s r k) (name_of s x)) _ none).1

  -- where a member of the newer part wrote the cell, one of them found it as the older part left it
  first_writer : (xs ys : List (Entry s)) → Chained s (xs ++ ys) → HasLastWriters s t (xs ++ ys) → (b : Entry s) → In b xs → t b ≡ true → wrote s k b ≡ true
      → (f : Entry s) × In f xs × (t f ≡ true) × (wrote s k f ≡ true) × (last_of s f k ≡ last_writer s k t ys)
  first_writer [] ys g h b i tb wb = absurd i
  first_writer (x ∷ xs) ys (g, gs) (h, hs) b (inl e) tb wb = go (last_parts s k t xs ys) (first_writer xs ys gs hs)
    where
      seen : last_of s x k ≡ last_writer s k t (xs ++ ys)
      seen = last_is s l (λ q. last_writer s q t (xs ++ ys)) x g.cells (h (ap t e ∙ tb)) k (touched_of s l k x (ap (wrote s k) e ∙ wb))

      go : ((a : Entry s) × In a xs × (t a ≡ true) × (wrote s k a ≡ true) × (last_writer s k t (xs ++ ys) ≡ Some (name_of s a))) ⊎ (last_writer s k t (xs ++ ys) ≡ last_writer s k t ys)
          → ((a : Entry s) → In a xs → t a ≡ true → wrote s k a ≡ true → (f : Entry s) × In f xs × (t f ≡ true) × (wrote s k f ≡ true) × (last_of s f k ≡ last_writer s k t ys))
          → (f : Entry s) × In f (x ∷ xs) × (t f ≡ true) × (wrote s k f ≡ true) × (last_of s f k ≡ last_writer s k t ys)
      go (inl a) ih = let f = ih a.0 a.1 a.2 a.3 in (f.0, inr f.1, f.2, f.3, f.4)
      go (inr q) ih = (x, inl refl, ap t e ∙ tb, ap (wrote s k) e ∙ wb, seen ∙ q)
  first_writer (x ∷ xs) ys (g, gs) (h, hs) b (inr i) tb wb = let f = first_writer xs ys gs hs b i tb wb in (f.0, inr f.1, f.2, f.3, f.4)

  -- where no member of the newer part wrote the cell as the older part left it, the last writer is that of the older part
  pub base_shown : (xs ys : List (Entry s)) → Distinct s (xs ++ ys) → Chained s (xs ++ ys) → HasLastWriters s t (xs ++ ys)
      → ((r : Entry s) → In r xs → t r ≡ true → wrote s k r ≡ true → is_among s (last_of s r k) xs ≡ false → ⊥) → last_writer s k t (xs ++ ys) ≡ last_writer s k t ys
  base_shown xs ys d g h none = go (last_parts s k t xs ys)
    where
      go : ((b : Entry s) × In b xs × (t b ≡ true) × (wrote s k b ≡ true) × (last_writer s k t (xs ++ ys) ≡ Some (name_of s b))) ⊎ (last_writer s k t (xs ++ ys) ≡ last_writer s k t ys)
          → last_writer s k t (xs ++ ys) ≡ last_writer s k t ys
      go (inr q) = q
      go (inl b) =
          let f = first_writer xs ys g h b.0 b.1 b.2 b.3 in
          absurd (none f.0 f.1 f.2 f.3 (none_in (λ a. is_name (last_of s f.0 k) (name_of s a)) xs (λ a i. false_from_ne_true _ (λ is.
          let w = last_in s k t ys (name_of s a) (ap (λ o. is_name o (name_of s a)) (sym f.4) ∙ is) in
          parts_apart s xs ys d a w.0 i w.1 w.4))))

-- which of the base wrote over what an open entry found
module _ (s : Subject) (l : Laws s) (t : Entry s → Bool) (xs ys : List (Entry s)) (d : Distinct s (xs ++ ys)) (g : Chained s (xs ++ ys)) (h : HasLastWriters s t ys) (settled : (a : Entry s) → In a ys → t a ≡ true) where
  module _ (e : Entry s) (i : In e (xs ++ ys)) (p : s.Key × Option ℕ) (j : In p e.lasts) (none : is_among s p.1 xs ≡ false) where
    -- who is named is of the base
    named : (n : ℕ) → p.1 ≡ Some n → (b : Entry s) × In b ys × (wrote s p.0 b ≡ true) × (name_of s b ≡ n)
    named n is =
        let o = older_of s (xs ++ ys) g e i in
        let b = last_in s p.0 (caused s e) o.0 n (sym (ap (λ q. is_name q n) (all_in _ e.lasts (o.1).lasts p j)) ∙ ap (λ q. is_name q n) is ∙ eq-eqb n n refl) in
        elim (in_parts xs ys b.0 (o.2 b.0 b.1)) [
          | inl u ↦ absurd (both_ways _ none (any_in (λ y. is_name p.1 (name_of s y)) xs b.0 u (ap (λ q. is_name q (name_of s b.0)) is ∙ eq-eqb n (name_of s b.0) (sym b.4))))
          | inr u ↦ (b.0, u, b.3, b.4)
        ]

    there : (o : Option ℕ) → p.1 ≡ o → is_there s t o ys ≡ true
    there None is = refl
    there (Some n) is = let b = named n is in any_in (λ a. t a && (name_of s a == n)) ys b.0 b.1 (and_from _ _ (settled b.0 b.1) (eq-eqb (name_of s b.0) n b.3))

    wrote_it : (a : Entry s) → In a ys → is_name p.1 (name_of s a) ≡ true → wrote s p.0 a ≡ true
    wrote_it a u is = at p.1 refl is
      where
        at : (o : Option ℕ) → p.1 ≡ o → is_name o (name_of s a) ≡ true → wrote s p.0 a ≡ true
        at None q f = absurd (false≢true f)
        at (Some n) q f =
            let b = named n q in
            ap (wrote s p.0) (sym (one_named s ys (older_distinct s xs ys d) b.0 a b.1 u (b.3 ∙ eqb-true n (name_of s a) f))) ∙ b.2

    pub base_over : (list_any (wrote_over s p) ys ≡ false → p.1 ≡ last_writer s p.0 t ys) × (p.1 ≡ last_writer s p.0 t ys → list_any (wrote_over s p) ys ≡ false)
    base_over = (
      λ over. elim (last_or_heir s l p.0 t p.1 ys (older_chained s xs ys g) h (there p.1 refl) wrote_it) [
        | inl q ↦ sym q
        | inr f ↦ absurd (both_ways _ over (any_in (wrote_over s p) ys f.0 f.1 (and_from _ _ (and_from _ _ (touched_of s l p.0 f.0 f.3) (ap (λ o. is_one o p.1) f.4 ∙ one_self p.1)) f.3)))
      ],
      λ is. none_in (wrote_over s p) ys (λ f u. false_from_ne_true _ (λ over.
          let q = and_parts (found_as s p f) (wrote s p.0 f) over in
          let r = and_parts (touches s f.foot p.0) (is_one (last_of s f p.0) p.1) q.0 in
          both_ways _ (heir_not_last s l p.0 t ys (older_distinct s xs ys d) (older_chained s xs ys g) f u (settled f u) q.1) (ap (is_one (last_of s f p.0)) (sym is) ∙ r.1))),
    )
