-- What stands behind a place of a list.
use Rattle.std.proofs.Common.{◌≡◌, ℕ, suc, List, ◌∷◌, drop, Some, slice_get, sym, ap₂, ◌∙◌}
use Rattle.std.proofs.Math.Seq.{drop-cons}
use Rattle.std.proofs.lemmas.Option.{slice_get_within, get_or_from_slice_get}

pub drop_at : {X : Type 0} (xs : List X) (i j : ℕ) (x : X) → i ≡ suc j → slice_get xs j ≡ Some x → drop j xs ≡ x ∷ drop i xs
drop_at xs i j x h e = drop-cons xs j x (slice_get_within xs j x e) ∙ ap₂ (λ y n. y ∷ drop n xs) (get_or_from_slice_get xs j x x e) (sym h)
