-- Entries that are settled go to the others that are.
use Rattle.std.proofs.Common.{◌≡◌, ◌∙◌, ℕ, zero, suc, ◌-◌, ◌≤◌, List, [], ◌∷◌, ◌++◌, length, map, take, drop, refl, sym, ap, append_assoc, arith}
use Rattle.std.proofs.lemmas.List.{map-append, take-append-drop}
use Rattle.std.specs.List.{AllByRecursion}

pub map_take : {A B : Type 0} (f : A → B) (n : ℕ) (xs : List A) → take n (map f xs) ≡ map f (take n xs)
map_take f zero xs = refl
map_take f (suc n) [] = refl
map_take f (suc n) (x ∷ xs) = ap (λ l. f x ∷ l) (map_take f n xs)

-- what is left of a list that was rotated and cut
pub rotated : {A : Type 0} (n m : ℕ) (xs : List A) → n ≤ length xs → m ≡ length xs - n → take m (drop n xs ++ take n xs) ≡ drop n xs
rotated n m xs h is = ap (λ k. take k (drop n xs ++ take n xs)) (is ∙ sym (length_drop n xs)) ∙ first_part (drop n xs) (take n xs)
  where
    length_drop : {B : Type 0} (k : ℕ) (ys : List B) → length (drop k ys) ≡ length ys - k
    length_drop zero ys = omega arith
    length_drop (suc k) [] = omega arith
    length_drop (suc k) (y ∷ ys) = let h : length (drop k ys) ≡ length ys - k = length_drop k ys in omega arith

    first_part : {B : Type 0} (ys zs : List B) → take (length ys) (ys ++ zs) ≡ ys
    first_part [] zs = refl
    first_part (y ∷ ys) zs = ap (λ l. y ∷ l) (first_part ys zs)

-- all items are those that they were
pub all_stay : {A B C : Type 0} (f : A → C) (g : B → C) (old new : List A) (n : ℕ) (xs : List B) → map f new ≡ map g (take n xs) → map f (old ++ new) ++ map g (drop n xs) ≡ map f old ++ map g xs
all_stay f g old new n xs is =
    ap (λ l. l ++ map g (drop n xs)) (map-append f old new ∙ ap (λ l. map f old ++ l) is) ∙ append_assoc (map f old) (map g (take n xs)) (map g (drop n xs))
    ∙ ap (λ l. map f old ++ l) (sym (map-append g (take n xs) (drop n xs)) ∙ ap (map g) (take-append-drop n xs))

-- what holds of each entry by its item holds of all items
pub all_mapped : {A B : Type 0} (P : B → Type 0) (f : A → B) (xs : List A) → AllByRecursion (λ (x : A). P (f x)) xs → AllByRecursion P (map f xs)
all_mapped P f [] h = tt
all_mapped P f (x ∷ xs) (h, hs) = (h, all_mapped P f xs hs)
