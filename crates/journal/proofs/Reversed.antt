-- Lists that are mapped, filtered and reversed, and what holds of all of them.
use Rattle.std.proofs.Common.{◌≡◌, ℕ, Bool, true, false, cond, List, [], ◌∷◌, ◌++◌, map, filter, reverse, append-nil, refl, sym, ap, ap₂, ◌∙◌}
use Rattle.std.specs.List.{AllByRecursion}
use Rattle.std.proofs.lemmas.List.{reverse-append, map-append}
use Rattle.std.proofs.lemmas.List.Elements.{filter-append}
use Rattle.history.proofs.Lists.{all_map}

pub map-map : {A B C : Type 0} (f : B → C) (g : A → B) (xs : List A) → map f (map g xs) ≡ map (λ a. f (g a)) xs
map-map f g [] = refl
map-map f g (x ∷ xs) = ap (λ l. f (g x) ∷ l) (map-map f g xs)

pub map-reverse : {A B : Type 0} (f : A → B) (xs : List A) → map f (reverse xs) ≡ reverse (map f xs)
map-reverse f [] = refl
map-reverse f (x ∷ xs) =
    ap (map f) (reverse-append (x ∷ []) xs) ∙ map-append f (reverse xs) (x ∷ []) ∙ ap (λ l. l ++ f x ∷ []) (map-reverse f xs) ∙ sym (reverse-append (f x ∷ []) (map f xs))

pub filter-map : {A B : Type 0} (f : A → B) (p : B → Bool) (xs : List A) → filter p (map f xs) ≡ map f (filter (λ a. p (f a)) xs)
filter-map f p [] = refl
filter-map {A = A} f p (x ∷ xs) = first (p (f x)) (filter-map f p xs)
  where
    first : (b : Bool) → filter p (map f xs) ≡ map f (filter (λ (a : A). p (f a)) xs) → cond b (f x ∷ filter p (map f xs)) (filter p (map f xs)) ≡ map f (cond b (x ∷ filter (λ (a : A). p (f a)) xs) (filter (λ (a : A). p (f a)) xs))
    first true ih = ap (λ l. f x ∷ l) ih
    first false ih = ih

pub filter-reverse : {A : Type 0} (p : A → Bool) (xs : List A) → filter p (reverse xs) ≡ reverse (filter p xs)
filter-reverse p [] = refl
filter-reverse p (x ∷ xs) =
    ap (filter p) (reverse-append (x ∷ []) xs) ∙ filter-append p (reverse xs) (x ∷ []) ∙ ap (λ l. l ++ cond (p x) (x ∷ []) []) (filter-reverse p xs) ∙ last (p x)
  where
    last : (b : Bool) → reverse (filter p xs) ++ cond b (x ∷ []) [] ≡ reverse (cond b (x ∷ filter p xs) (filter p xs))
    last true = sym (reverse-append (x ∷ []) (filter p xs))
    last false = append-nil (reverse (filter p xs))

-- numbers of those that pass, the oldest first
pub numbers_reversed : {A B : Type 0} (f : A → B) (p : B → Bool) (number : B → ℕ) (xs : List A) → map number (filter p (reverse (map f xs))) ≡ map (λ a. number (f a)) (filter (λ a. p (f a)) (reverse xs))
numbers_reversed f p number xs =
    ap (λ l. map number (filter p l)) (sym (map-reverse f xs)) ∙ ap (map number) (filter-map f p (reverse xs)) ∙ map-map number f (filter (λ a. p (f a)) (reverse xs))

pub map_same : {A B : Type 0} (f g : A → B) (xs : List A) → AllByRecursion (λ a. f a ≡ g a) xs → map f xs ≡ map g xs
map_same f g [] h = refl
map_same f g (x ∷ xs) (h, hs) = ap₂ (λ y l. y ∷ l) h (map_same f g xs hs)

pub all_unmapped : {A B : Type 0} (f : A → B) (P : B → Type 0) (xs : List A) → AllByRecursion P (map f xs) → AllByRecursion (λ a. P (f a)) xs
all_unmapped f P [] h = tt
all_unmapped f P (x ∷ xs) (h, hs) = (h, all_unmapped f P xs hs)

pub all_zip : {A : Type 0} (P Q : A → Type 0) (xs : List A) → AllByRecursion P xs → AllByRecursion Q xs → AllByRecursion (λ a. P a × Q a) xs
all_zip P Q [] h g = tt
all_zip P Q (x ∷ xs) (h, hs) (g, gs) = ((h, g), all_zip P Q xs hs gs)

-- what holds of any two that are good holds of all pairs
pub all_pairs : {A : Type 0} (P : A → Type 0) (R : A → A → Type 0) (xs : List A) → ((a b : A) → P a → P b → R a b) → AllByRecursion P xs → AllByRecursion (λ a. AllByRecursion (R a) xs) xs
all_pairs P R xs f h = all_map _ _ xs (λ a p. all_map _ _ xs (λ b q. f a b p q) h) h

-- all pairs of fewer
pub fewer_pairs : {A : Type 0} (R : A → A → Type 0) (x : A) (xs : List A) → AllByRecursion (λ a. AllByRecursion (R a) (x ∷ xs)) (x ∷ xs) → AllByRecursion (λ a. AllByRecursion (R a) xs) xs
fewer_pairs R x xs (h, hs) = all_map _ _ xs (λ a q. q.1) hs
