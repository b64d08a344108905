-- The members of a list, one by one.
use Rattle.std.proofs.Common.{◌≡◌, Bool, true, false, ◌||◌, List, [], ◌∷◌, ◌⊎◌, inl, inr, refl, sym, ap₂, subst}
use Rattle.std.specs.List.{list_any, AllByRecursion}
use Rattle.std.proofs.lemmas.Bool.{false≢true, or_left, or_right, or_cases}

-- an element of a list
abbrev pub In : {A : Type 0} → A → List A → Type 0
In a [] = ⊥
In a (x ∷ xs) = (x ≡ a) ⊎ In a xs

pub all_in : {A : Type 0} (P : A → Type 0) (xs : List A) → AllByRecursion P xs → (a : A) → In a xs → P a
all_in P [] h a i = absurd i
all_in P (x ∷ xs) (h, hs) a (inl e) = subst P e h
all_in P (x ∷ xs) (h, hs) a (inr i) = all_in P xs hs a i

pub in_all : {A : Type 0} (P : A → Type 0) (xs : List A) → ((a : A) → In a xs → P a) → AllByRecursion P xs
in_all P [] f = tt
in_all P (x ∷ xs) f = (f x (inl refl), in_all P xs (λ a i. f a (inr i)))

-- what passes a test is found by it, and what is found is an element that passes it
pub any_in : {A : Type 0} (test : A → Bool) (xs : List A) (a : A) → In a xs → test a ≡ true → list_any test xs ≡ true
any_in test [] a i h = absurd i
any_in test (x ∷ xs) a (inl e) h = or_left _ _ (subst (λ y. test y ≡ true) (sym e) h)
any_in test (x ∷ xs) a (inr i) h = or_right (test x) _ (any_in test xs a i h)

pub in_any : {A : Type 0} (test : A → Bool) (xs : List A) → list_any test xs ≡ true → (a : A) × In a xs × (test a ≡ true)
in_any test [] h = absurd (false≢true h)
in_any test (x ∷ xs) h = elim (or_cases (test x) _ h) [
  | inl e ↦ (x, inl refl, e)
  | inr e ↦ let r = in_any test xs e in (r.0, inr r.1, r.2)
]

pub none_in : {A : Type 0} (test : A → Bool) (xs : List A) → ((a : A) → In a xs → test a ≡ false) → list_any test xs ≡ false
none_in test [] f = refl
none_in test (x ∷ xs) f = rw (f x (inl refl)) (none_in test xs (λ a i. f a (inr i)))

-- tests that agree on each element
pub any_each : {A : Type 0} (p q : A → Bool) (xs : List A) → ((a : A) → In a xs → p a ≡ q a) → list_any p xs ≡ list_any q xs
any_each p q [] h = refl
any_each p q (x ∷ xs) h = ap₂ (λ a b. a || b) (h x (inl refl)) (any_each p q xs (λ a i. h a (inr i)))
