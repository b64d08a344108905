-- What holds of each element of a list, and facts of two truth values.
use Rattle.std.proofs.Common.{◌≡◌, Bool, true, false, ◌&&◌, ◌||◌, not, List, [], ◌∷◌, ◌++◌, map, filter, reverse, inl, inr, refl, sym, subst}
use Rattle.std.specs.List.{list_any, AllByRecursion}
use Rattle.std.proofs.lemmas.List.{reverse-append}
use Rattle.std.proofs.lemmas.Bool.{false_from_ne_true, or_left, or_right, or_cases, false≢true}

pub all_map : {A : Type 0} (P Q : A → Type 0) (xs : List A) → ((a : A) → P a → Q a) → AllByRecursion P xs → AllByRecursion Q xs
all_map P Q [] f h = tt
all_map P Q (x ∷ xs) f (p, h) = (f x p, all_map P Q xs f h)

pub all_both : {A : Type 0} (P Q R : A → Type 0) (xs : List A) → ((a : A) → P a → Q a → R a) → AllByRecursion P xs → AllByRecursion Q xs → AllByRecursion R xs
all_both P Q R [] f h g = tt
all_both P Q R (x ∷ xs) f (p, h) (q, g) = (f x p q, all_both P Q R xs f h g)

pub all_of : {A : Type 0} (P : A → Type 0) (xs : List A) → ((a : A) → P a) → AllByRecursion P xs
all_of P [] f = tt
all_of P (x ∷ xs) f = (f x, all_of P xs f)

pub all_mapped : {A B : Type 0} (f : A → B) (P : B → Type 0) (xs : List A) → AllByRecursion (λ a. P (f a)) xs → AllByRecursion P (map f xs)
all_mapped f P [] h = tt
all_mapped f P (x ∷ xs) (p, h) = (p, all_mapped f P xs h)

pub all_append : {A : Type 0} (P : A → Type 0) (xs ys : List A) → AllByRecursion P xs → AllByRecursion P ys → AllByRecursion P (xs ++ ys)
all_append P [] ys h g = g
all_append P (x ∷ xs) ys (p, h) g = (p, all_append P xs ys h g)

pub all_reversed : {A : Type 0} (P : A → Type 0) (xs : List A) → AllByRecursion P xs → AllByRecursion P (reverse xs)
all_reversed P [] h = tt
all_reversed P (x ∷ xs) (p, h) = subst (AllByRecursion P) (sym (reverse-append (x ∷ []) xs)) (all_append P (reverse xs) (x ∷ []) (all_reversed P xs h) (p, tt))

-- what holds of all holds of the one in the middle, and of all in another order
pub all_at : {A : Type 0} (P : A → Type 0) (xs : List A) (a : A) (ys : List A) → AllByRecursion P (xs ++ a ∷ ys) → P a
all_at P [] a ys (p, h) = p
all_at P (x ∷ xs) a ys (p, h) = all_at P xs a ys h

pub all_swap : {A : Type 0} (P : A → Type 0) (xs : List A) (a b : A) (ys : List A) → AllByRecursion P (xs ++ a ∷ b ∷ ys) → AllByRecursion P (xs ++ b ∷ a ∷ ys)
all_swap P [] a b ys (p, (q, h)) = (q, (p, h))
all_swap P (x ∷ xs) a b ys (p, h) = (p, all_swap P xs a b ys h)

-- an item that passes a test is found by it, and what is found passes it
pub any_found : {A : Type 0} (test : A → Bool) (xs : List A) → AllByRecursion (λ a. test a ≡ true → list_any test xs ≡ true) xs
any_found test [] = tt
any_found test (x ∷ xs) = (λ h. or_left _ _ h, all_map _ _ xs (λ a ih h. or_right (test x) _ (ih h)) (any_found test xs))

pub any_gives : {A : Type 0} (P : Type 0) (test : A → Bool) (xs : List A) → list_any test xs ≡ true → AllByRecursion (λ a. test a ≡ true → P) xs → P
any_gives P test [] h g = absurd (false≢true h)
any_gives P test (x ∷ xs) h (g, gs) = elim (or_cases (test x) _ h) [ inl q ↦ g q | inr q ↦ any_gives P test xs q gs ]

pub any_same : {A : Type 0} (p q : A → Bool) (xs : List A) → AllByRecursion (λ a. p a ≡ q a) xs → list_any p xs ≡ list_any q xs
any_same p q [] h = refl
any_same p q (x ∷ xs) (h, hs) = λ i. h i || any_same p q xs hs i

pub any_none : {A : Type 0} (p : A → Bool) (xs : List A) → AllByRecursion (λ a. p a ≡ false) xs → list_any p xs ≡ false
any_none p [] h = refl
any_none p (x ∷ xs) (h, hs) = rw h (any_none p xs hs)

pub filter_same : {A : Type 0} (p q : A → Bool) (xs : List A) → AllByRecursion (λ a. p a ≡ q a) xs → filter p xs ≡ filter q xs
filter_same p q [] h = refl
filter_same p q (x ∷ xs) (h, hs) = rw (h, filter_same p q xs hs) refl

-- a cause that stays when c is taken away
pub kept_cause : (x t c m : Bool) → x ≡ (t && m) → (c ≡ true → x ≡ true → ⊥) → x ≡ ((t && not c) && m)
kept_cause x false c m h f = h
kept_cause x true false m h f = h
kept_cause x true true m h f = false_from_ne_true x (f refl)

-- a part taken away and put back
pub put_back : (t c : Bool) → (c ≡ true → t ≡ true) → ((t && not c) || c) ≡ t
put_back true true h = refl
put_back true false h = refl
put_back false true h = sym (h refl)
put_back false false h = refl

-- what is put to a set that it is no part of, and taken away
pub take_back : (t c : Bool) → (c ≡ true → t ≡ false) → ((t || c) && not c) ≡ t
take_back true true h = sym (h refl)
take_back true false h = refl
take_back false true h = refl
take_back false false h = refl
