-- Neighbours of a list change places.
use Rattle.std.proofs.Common.{◌≡◌, ℕ, zero, suc, ◌+◌, List, [], ◌∷◌, ◌++◌, length, map, reverse, refl, sym, ap, ◌∙◌, arith}
use mathlib.Core.List.{reverse_aux}
use Rattle.journal.specs.Items.{exchanged}

pub map-exchanged : {A B : Type 0} (f : A → B) (n : ℕ) (xs : List A) → map f (exchanged n xs) ≡ exchanged n (map f xs)
map-exchanged f n [] = refl
map-exchanged f n (b ∷ []) = refl
map-exchanged f zero (b ∷ a ∷ xs) = refl
map-exchanged f (suc n) (b ∷ a ∷ xs) = ap (λ l. f b ∷ l) (map-exchanged f n (a ∷ xs))

pub onto-append : {A : Type 0} (us vs zs : List A) → reverse_aux (us ++ vs) zs ≡ reverse_aux vs (reverse_aux us zs)
onto-append [] vs zs = refl
onto-append (u ∷ us) vs zs = onto-append us vs (u ∷ zs)

exchanged-suc : {A : Type 0} (k : ℕ) (v : A) (ws : List A) → exchanged (suc k) (v ∷ ws) ≡ v ∷ exchanged k ws
exchanged-suc k v [] = refl
exchanged-suc k v (w ∷ ws) = refl

pub exchanged-onto : {A : Type 0} (vs : List A) (k : ℕ) (ws : List A) → exchanged (length vs + k) (reverse_aux vs ws) ≡ reverse_aux vs (exchanged k ws)
exchanged-onto [] k ws = let e : 0 + k ≡ k = omega arith in ap (λ n. exchanged n ws) e
exchanged-onto (v ∷ vs) k ws =
    let e : length (v ∷ vs) + k ≡ length vs + suc k = omega arith in
    ap (λ n. exchanged n (reverse_aux vs (v ∷ ws))) e ∙ exchanged-onto vs (suc k) (v ∷ ws) ∙ ap (reverse_aux vs) (exchanged-suc k v ws)

-- with as many behind them, the oldest first
pub exchanged_reversed : {A : Type 0} (xs : List A) (a b : A) (ys : List A) → exchanged (length ys) (reverse (xs ++ a ∷ b ∷ ys)) ≡ reverse (xs ++ b ∷ a ∷ ys)
exchanged_reversed xs a b ys =
    let e : length ys ≡ length ys + 0 = omega arith in
    ap (exchanged (length ys)) (onto-append xs (a ∷ b ∷ ys) [])
    ∙ ap (λ n. exchanged n (reverse_aux ys (b ∷ a ∷ reverse xs))) e
    ∙ exchanged-onto ys 0 (b ∷ a ∷ reverse xs)
    ∙ sym (onto-append xs (b ∷ a ∷ ys) [])
