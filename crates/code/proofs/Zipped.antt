-- A test of two lists, item by item, in a loop over both.
use Rattle.std.proofs.Common.{◌≡◌, ℕ, vec_len, Bool, true, false, ◌&&◌, List, [], ◌∷◌, length, ◌⊎◌, inl, inr, refl, sym, ap, ◌∙◌, arith}
use Rattle.std.specs.declared.vec.Vec.{Vec}
use Rattle.std.specs.declared.alloc.Global.{Global}

-- a test of lists is one of their items in order, and of their lengths
pub record ItemByItem {A : Type 0} (test : A → A → Bool) (all : List A → List A → Bool) : Type 0 where
  pub ends : all [] [] ≡ true
  pub longer : (x : A) (xs : List A) → all (x ∷ xs) [] ≡ false
  pub shorter : (y : A) (ys : List A) → all [] (y ∷ ys) ≡ false
  pub items : (x y : A) (xs ys : List A) → all (x ∷ xs) (y ∷ ys) ≡ (test x y && all xs ys)

and_false : (p q : Bool) → q ≡ false → (p && q) ≡ false
and_false true q h = h
and_false false q h = refl

-- lists of different lengths
lengths_differ : {A : Type 0} {test : A → A → Bool} {all : List A → List A → Bool} → ItemByItem test all → (xs ys : List A) → (length xs ≡ length ys → ⊥) → all xs ys ≡ false
lengths_differ by [] [] h = absurd (h refl)
lengths_differ by [] (y ∷ ys) h = by.shorter y ys
lengths_differ by (x ∷ xs) [] h = by.longer x xs
lengths_differ {test = test} by (x ∷ xs) (y ∷ ys) h = by.items x y xs ys ∙ and_false (test x y) _ (lengths_differ by xs ys (λ e. h (omega (arith, e))))

-- how many items a vector has, as the program counts them
pub counted : {A : Type 0} (xs : Vec A Global) {v : Vec A Global} {n : ℕ} → n ≡ vec_len v → v ≡ xs → n ≡ length xs.items
counted xs p q = omega (arith, xs.ok.0, p ∙ ap vec_len q)

-- the same, where the program has counted them
pub counts_differ : {A : Type 0} {test : A → A → Bool} {all : List A → List A → Bool} → ItemByItem test all → (xs ys : List A) {m n : ℕ} → m ≡ length xs → n ≡ length ys → (m ≡ n → ⊥) → false ≡ all xs ys
counts_differ by xs ys p q h = sym (lengths_differ by xs ys (λ e. h (p ∙ e ∙ sym q)))

-- what the loop has left: as many items on both sides, which decide
pub record Left {A : Type 0} (all : List A → List A → Bool) (us vs xs ys : List A) : Type 0 where
  pub lengths : length us ≡ length vs
  pub decide : all us vs ≡ all xs ys

at_items : {A : Type 0} {test : A → A → Bool} {all : List A → List A → Bool} → ItemByItem test all → {us vs cs ds : List A} {x y : A} → us ≡ x ∷ cs → vs ≡ y ∷ ds → all us vs ≡ (test x y && all cs ds)
at_items {all = all} by {cs = cs} {ds = ds} {x = x} {y = y} p q = (λ i. all (p i) (q i)) ∙ by.items x y cs ds

-- a pair of items that are the same
pub left_after : {A : Type 0} {test : A → A → Bool} {all : List A → List A → Bool} → ItemByItem test all → (us vs xs ys cs ds : List A) (x y : A) → Left all us vs xs ys → us ≡ x ∷ cs → vs ≡ y ∷ ds → true ≡ test x y → Left all cs ds xs ys
left_after {all = all} by us vs xs ys cs ds x y h p q same = record {
  lengths = (let k = h.lengths in omega (arith, k, ap length p, ap length q));
  decide = sym (at_items by p q ∙ ap (λ b. b && all cs ds) (sym same)) ∙ h.decide;
}

-- a pair of items that differ
pub differ_here : {A : Type 0} {test : A → A → Bool} {all : List A → List A → Bool} → ItemByItem test all → (us vs xs ys cs ds : List A) (x y : A) → Left all us vs xs ys → us ≡ x ∷ cs → vs ≡ y ∷ ds → false ≡ test x y → false ≡ all xs ys
differ_here {all = all} by us vs xs ys cs ds x y h p q other = sym (at_items by p q ∙ ap (λ b. b && all cs ds) (sym other)) ∙ h.decide

-- at the end of both
pub none_left : {A : Type 0} {test : A → A → Bool} {all : List A → List A → Bool} → ItemByItem test all → (us vs xs ys : List A) → Left all us vs xs ys → (us ≡ []) ⊎ (vs ≡ []) → true ≡ all xs ys
none_left by [] [] xs ys h e = sym by.ends ∙ h.decide
none_left by [] (b ∷ vs) xs ys h e = let k = h.lengths in absurd (omega (arith, k))
none_left by (a ∷ us) [] xs ys h e = let k = h.lengths in absurd (omega (arith, k))
none_left by (a ∷ us) (b ∷ vs) xs ys h (inl e) = absurd (cc)
none_left by (a ∷ us) (b ∷ vs) xs ys h (inr e) = absurd (cc)
