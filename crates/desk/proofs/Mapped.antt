-- What is found in a list that was mapped, and how long a list is once some items are taken out.
use Rattle.std.proofs.Common.{◌≡◌, ◌≤◌, suc, nat_lt, Bool, true, false, ◌||◌, not, List, [], ◌∷◌, length, map, filter, cond, refl, ap, arith}
use Rattle.std.specs.List.{list_any}
use Rattle.std.proofs.lemmas.Bool.Decides.{nat_tests}

-- some item of a mapped list passes a test where some item passes it once it is mapped
pub any_mapped : {A B : Type 0} (p : B → Bool) (f : A → B) (xs : List A) → list_any p (map f xs) ≡ list_any (λ x. p (f x)) xs
any_mapped p f [] = refl
any_mapped p f (x ∷ xs) = ap (λ b. p (f x) || b) (any_mapped p f xs)

-- what passes a test of what is mapped, mapped, is what passes it of the mapped list
pub filter_mapped : {A B : Type 0} (p : B → Bool) (f : A → B) (xs : List A) → map f (filter (λ x. p (f x)) xs) ≡ filter p (map f xs)
filter_mapped p f [] = refl
filter_mapped p f (x ∷ xs) = one (p (f x)) (filter_mapped p f xs)
  where
    one : (b : Bool) → map f (filter (λ y. p (f y)) xs) ≡ filter p (map f xs)
        → map f (cond b (x ∷ filter (λ y. p (f y)) xs) (filter (λ y. p (f y)) xs)) ≡ cond b (f x ∷ filter p (map f xs)) (filter p (map f xs))
    one true e = ap (λ ys. f x ∷ ys) e
    one false e = e

-- what passes a test is no longer than the whole list
filter_within : {A : Type 0} (p : A → Bool) (xs : List A) → length (filter p xs) ≤ length xs
filter_within p [] = omega arith
filter_within p (x ∷ xs) = one (p x) (filter_within p xs)
  where
    one : (b : Bool) → length (filter p xs) ≤ length xs → length (cond b (x ∷ filter p xs) (filter p xs)) ≤ suc (length xs)
    one true h = omega arith
    one false h = omega arith

-- a list is shorter without the items that pass a test where some item passes it
pub shorter_without : {A : Type 0} (p : A → Bool) (xs : List A) → nat_lt (length (filter (λ x. not (p x)) xs)) (length xs) ≡ list_any p xs
shorter_without {A = A} p [] = refl
shorter_without {A = A} p (x ∷ xs) = one (p x) (filter (λ y. not (p y)) xs) (filter_within (λ y. not (p y)) xs) (shorter_without p xs)
  where
    one : (b : Bool) (left : List A) → length left ≤ length xs → nat_lt (length left) (length xs) ≡ list_any p xs
        → nat_lt (length (cond (not b) (x ∷ left) left)) (suc (length xs)) ≡ (b || list_any p xs)
    one true left h e = grind (arith, nat_tests)
    one false left h e = grind (arith, nat_tests)
