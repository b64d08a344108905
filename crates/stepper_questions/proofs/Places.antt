-- Items in their places.
use Rattle.std.proofs.Common.{◌≡◌, ◌≢◌, ◌⊎◌, inl, inr, ℕ, zero, suc, ◌<◌, ◌≤◌, Bool, true, false, ltb, ltb-true, ltb-false, List, [], ◌∷◌, Some, slice_get, refl, sym, ap, ◌∙◌, subst, arith}
use Rattle.std.specs.List.{list_any, AllByRecursion}
use Rattle.std.proofs.lemmas.Bool.{false≢true, or_cases, or_left, or_right}
use Rattle.journal.specs.Lines.{plain, Line}
use Rattle.history.specs.Journal.{name_of, caused}
use Rattle.causality.proofs.Facts.{Older, older_pairs}
use Rattle.causality.proofs.Following.{all_place}
use Rattle.causality.proofs.Pairs.{Pairs, pairs_from_end, all_from_end}
use Rattle.causality.proofs.Telling.{Tells}

-- what holds of each pair holds of the items at two places
pub pair_at : {A : Type 0} (R : A → A → Type 0) (xs : List A) → Pairs R xs → (p q : ℕ) (x y : A) → slice_get xs p ≡ Some x → slice_get xs q ≡ Some y → p < q → R x y
pair_at R [] h p q x y at there lt = cc
pair_at R (z ∷ xs) (h, hs) p zero x y at there lt = absurd (omega arith)
pair_at R (z ∷ xs) (h, hs) zero (suc q) x y at there lt = let is : z ≡ x = cc in subst (λ w. R w y) is (all_place (R z) xs h q y there)
pair_at R (z ∷ xs) (h, hs) (suc p) (suc q) x y at there lt = pair_at R xs hs p q x y at there (omega arith)

-- two items in one place are one
pub one_item : {A : Type 0} (xs : List A) (p : ℕ) (x y : A) → slice_get xs p ≡ Some x → slice_get xs p ≡ Some y → x ≡ y
one_item xs p x y at there = let both : Some x ≡ Some y = sym at ∙ there in cc

-- what is so of one stands in some place
pub place_any : {A : Type 0} (test : A → Bool) (xs : List A) → list_any test xs ≡ true → (i : ℕ) × (x : A) × (slice_get xs i ≡ Some x) × (test x ≡ true)
place_any test [] h = absurd (false≢true h)
place_any test (x ∷ xs) h = elim (or_cases (test x) _ h) [
  | inl here ↦ (0, x, refl, here)
  | inr there ↦ let g = place_any test xs there in (suc g.0, g.1, g.2, g.3)
]

pub any_at : {A : Type 0} (test : A → Bool) (xs : List A) (i : ℕ) (x : A) → slice_get xs i ≡ Some x → test x ≡ true → list_any test xs ≡ true
any_at test [] i x at h = cc
any_at test (y ∷ xs) zero x at h = let is : y ≡ x = cc in or_left _ _ (ap test is ∙ h)
any_at test (y ∷ xs) (suc i) x at h = or_right (test y) _ (any_at test xs i x at h)

-- a number is less than another, or not
pub less_or_not : (a b : ℕ) → (a < b) ⊎ (b ≤ a)
less_or_not a b = by (ltb a b) refl
  where
    by : (t : Bool) → ltb a b ≡ t → (a < b) ⊎ (b ≤ a)
    by true is = inl (ltb-true a b is)
    by false is = inr (ltb-false a b is)

module _ (lines : List Line) (h : Tells lines) where
  -- of two lines the older one stands first
  older_lines : Pairs (λ (l m : Line). Older l.entry m.entry) lines
  older_lines = pairs_from_end (λ (l : Line). l.entry) (λ e a. Older a e) lines (older_pairs lines h)

  own_lines : AllByRecursion (λ (l : Line). caused plain l.entry l.entry ≡ false) lines
  own_lines = all_from_end (λ (l : Line). l.entry) (λ e. caused plain e e ≡ false) lines h.lines_are.own

  pub older_at : (p q : ℕ) (a b : Line) → slice_get lines p ≡ Some a → slice_get lines q ≡ Some b → p < q → Older a.entry b.entry
  older_at p q a b at there lt = pair_at (λ (l m : Line). Older l.entry m.entry) lines older_lines p q a b at there lt

  -- a name stands in one place
  pub one_name : (p q : ℕ) (a b : Line) → slice_get lines p ≡ Some a → slice_get lines q ≡ Some b → name_of plain a.entry ≡ name_of plain b.entry → p ≡ q
  one_name p q a b at there same = elim (less_or_not p q) [
    | inl lt ↦ absurd ((older_at p q a b at there lt).other same)
    | inr le ↦ elim (less_or_not q p) [
      | inl lt ↦ absurd ((older_at q p b a there at lt).other (sym same))
      | inr also ↦ omega arith
    ]
  ]

  -- a cause stands before what it caused
  pub cause_rises : (p q : ℕ) (a b : Line) → slice_get lines p ≡ Some a → slice_get lines q ≡ Some b → caused plain b.entry a.entry ≡ true → p < q
  cause_rises p q a b at there is = elim (less_or_not p q) [
    | inl lt ↦ lt
    | inr le ↦ elim (less_or_not q p) [
      | inl lt ↦ absurd (false≢true (sym (older_at q p b a there at lt).order ∙ is))
      | inr also ↦
          let same : p ≡ q = omega arith in
          let one : a ≡ b = one_item lines q a b (subst (λ r. slice_get lines r ≡ Some a) same at) there in
          absurd (false≢true (sym (all_place _ lines own_lines q b there) ∙ subst (λ (c : Line). caused plain b.entry c.entry ≡ true) one is))
    ]
  ]
