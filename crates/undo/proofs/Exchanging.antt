-- Neighbours of a list change places.
use Rattle.std.proofs.Common.{◌≡◌, ℕ, zero, suc, ◌+◌, ◌<◌, List, [], ◌∷◌, length, set, get_or, take, drop, map, refl, ap, ◌∙◌, arith}
use Rattle.std.specs.List.{swap}
use Rattle.journal.specs.Items.{item_of, may_exchange, neighbours, exchanged}
use Rattle.journal.specs.declared.entry.Entry.{Entry}

set_is : {A : Type 0} (xs : List A) (i : ℕ) (d : A) → i + 1 < length xs → set (set xs i (get_or xs (i + 1) d)) (i + 1) (get_or xs i d) ≡ exchanged i xs
set_is [] i d h = absurd (omega arith)
set_is (b ∷ []) i d h = absurd (omega arith)
set_is (b ∷ a ∷ xs) zero d h = refl
set_is (b ∷ a ∷ xs) (suc i) d h =
    let e : suc i + 1 ≡ suc (i + 1) = omega arith in
    ap (λ j. set (set (b ∷ a ∷ xs) (suc i) (get_or (b ∷ a ∷ xs) j d)) j (get_or (a ∷ xs) i d)) e ∙ ap (λ l. b ∷ l) (set_is (a ∷ xs) i d (omega arith))

pub swap_is : {A : Type 0} (xs : List A) (i : ℕ) → i + 1 < length xs → swap xs i (i + 1) ≡ exchanged i xs
swap_is [] i h = absurd (omega arith)
swap_is (x ∷ xs) i h = set_is (x ∷ xs) i x h

pub may_at : (xs : List Entry) (n : ℕ) (d e : Entry) → n + 1 < length xs → neighbours may_exchange n (map item_of xs) ≡ may_exchange (item_of (get_or xs n d)) (item_of (get_or xs (n + 1) e))
may_at [] n d e h = absurd (omega arith)
may_at (b ∷ []) n d e h = absurd (omega arith)
may_at (b ∷ a ∷ xs) zero d e h = refl
may_at (b ∷ a ∷ xs) (suc n) d e h =
    let i : suc (n + 1) ≡ suc n + 1 = omega arith in
    may_at (a ∷ xs) n d e (omega arith) ∙ ap (λ j. may_exchange (item_of (get_or (a ∷ xs) n d)) (item_of (get_or (b ∷ a ∷ xs) j e))) i

-- neighbours behind the first ones
turn_suc : {A : Type 0} (k : ℕ) (v : A) (ws : List A) → exchanged (suc k) (v ∷ ws) ≡ v ∷ exchanged k ws
turn_suc k v [] = refl
turn_suc k v (w ∷ ws) = refl

pub drop_turned : {A : Type 0} (e p : ℕ) (xs : List A) → drop e (exchanged (e + p) xs) ≡ exchanged p (drop e xs)
drop_turned zero p xs = let is : 0 + p ≡ p = omega arith in ap (λ n. exchanged n xs) is
drop_turned (suc e) p [] = refl
drop_turned (suc e) p (x ∷ xs) =
    let is : suc e + p ≡ suc (e + p) = omega arith in
    ap (drop (suc e)) (ap (λ n. exchanged n (x ∷ xs)) is ∙ turn_suc (e + p) x xs) ∙ drop_turned e p xs

pub take_turned : {A : Type 0} (e p : ℕ) (xs : List A) → take e (exchanged (e + p) xs) ≡ take e xs
take_turned zero p xs = refl
take_turned (suc e) p [] = refl
take_turned (suc e) p (x ∷ xs) =
    let is : suc e + p ≡ suc (e + p) = omega arith in
    ap (take (suc e)) (ap (λ n. exchanged n (x ∷ xs)) is ∙ turn_suc (e + p) x xs) ∙ ap (λ l. x ∷ l) (take_turned e p xs)

pub length_turned : {A : Type 0} (n : ℕ) (xs : List A) → length (exchanged n xs) ≡ length xs
length_turned n [] = refl
length_turned n (b ∷ []) = refl
length_turned zero (b ∷ a ∷ xs) = refl
length_turned (suc n) (b ∷ a ∷ xs) = let h = length_turned n (a ∷ xs) in omega (arith, h)
