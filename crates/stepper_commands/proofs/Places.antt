-- A search by `position` that falls back on the length gives the first place, or the length.
use Rattle.std.proofs.Common.{◌≡◌, ℕ, ◌≤◌, List, length, Bool, true, false, not, cond, Some, None, refl, arith, nat_lt}
use Rattle.std.specs.Prelude.{unwrap_or}
use Rattle.std.specs.List.{position, position_or_len}
use Rattle.std.proofs.lemmas.List.Sums.{prefix_len-le-length}

found_or : (b : Bool) (n m : ℕ) → n ≤ m → nat_lt n m ≡ b → unwrap_or (cond b (Some n) None) m ≡ n
found_or true n m h e = refl
found_or false n m h e = grind arith

pub place_or : {X : Type 0} (p : X → Bool) (xs : List X) → unwrap_or (position p xs) (length xs) ≡ position_or_len p xs
place_or p xs = found_or (nat_lt (position_or_len p xs) (length xs)) (position_or_len p xs) (length xs) (prefix_len-le-length (λ x. not (p x)) xs) refl
