-- What is among the items of a list.
use Rattle.std.proofs.Common.{◌≡◌, ℕ, zero, suc, ◌<◌, Bool, true, List, [], ◌∷◌, length, get_or, map, arith}
use Rattle.std.specs.List.{list_any}
use Rattle.std.proofs.lemmas.Bool.{or_left, or_right}

-- an item that passes is one of those that pass
pub any_at : {A B : Type 0} (p : B → Bool) (f : A → B) (xs : List A) (i : ℕ) (d : A) → i < length xs → p (f (get_or xs i d)) ≡ true → list_any p (map f xs) ≡ true
any_at p f [] i d h is = absurd (omega arith)
any_at p f (x ∷ xs) zero d h is = or_left _ _ is
any_at p f (x ∷ xs) (suc i) d h is = or_right (p (f x)) _ (any_at p f xs i d (omega arith) is)
