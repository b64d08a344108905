-- The greatest number of items, as far as a loop has come.
use Rattle.std.proofs.Common.{ℕ, ◌+◌, ◌<◌, ◌≤◌, All, List, length, map, get_or, arith, ap, below_more}
use Rattle.std.proofs.lemmas.List.{length-map, get_or-map, get_or_default}

-- so far no item has a greater one
abbrev pub Above : {A : Type 0} → (A → ℕ) → List A → ℕ → ℕ → Type 0
Above {A} f xs i g = (k : ℕ) (d : A) → k < i → f (get_or xs k d) ≤ g

pub above_more : {A : Type 0} (f : A → ℕ) (xs : List A) (i g r : ℕ) (x : A) → Above f xs i g → i < length xs → g ≤ r → f (get_or xs i x) ≤ r → Above f xs (i + 1) r
above_more {A} f xs i g r x above lt le here k d h =
    below_more (λ j. (y : A) → f (get_or xs j y) ≤ r) i
    (λ j less y. let a = above j y less in omega (arith, a, le))
    (λ y. let e = ap f (get_or_default xs i y x lt) in omega (arith, e, here)) k h d

-- what holds of mapped items holds of the items
pub all_unmapped : {A B : Type 0} (f : B → ℕ) (g : A → B) (xs : List A) (n : ℕ) → All (λ b. f b ≤ n) (map g xs) → Above (λ a. f (g a)) xs (length xs) n
all_unmapped f g xs n all k d h =
    let l = length-map xs g in
    let e = ap f (get_or-map g xs k d (g d) h) in
    let a = all k (g d) (omega (arith, h, l)) in
    omega (arith, e, a)
