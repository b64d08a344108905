-- One step of a walk.
use Rattle.std.proofs.Common.{◌≡◌, ℕ, zero, suc, List, [], ◌∷◌, ◌++◌, Some, None, true, false, cond, refl, ap, ◌∙◌}
use Rattle.ids.specs.declared.names.PromId.{PromId}
use Rattle.values.specs.Data.{Val, promise}
use Rattle.values.specs.Promises.{promise_of}
use Rattle.refs.specs.Walks.{Resolutions, came, ended, circled, onward, stepped, stopped, walk}

-- a value that is no promise ends the walk
pub walk-value : (n : ℕ) (m : Resolutions) (seen : List PromId) (v : Val) → promise_of v ≡ None → walk n m seen v ≡ ended v
unfolding walk
walk-value zero m seen v e = ap (stopped v) e
walk-value (suc n) m seen v e = ap (λ o. stepped m seen v o (λ p u. walk n m (seen ++ p ∷ []) u)) e

-- a promise that was seen closes a ring
pub walk-seen : (n : ℕ) (m : Resolutions) (seen : List PromId) (p : PromId) → came p seen ≡ true → walk n m seen (promise p) ≡ circled
unfolding walk
walk-seen zero m seen p e = refl
walk-seen (suc n) m seen p e = ap (λ b. cond b circled (onward p (m p) (λ u. walk n m (seen ++ p ∷ []) u))) e

-- an unresolved promise ends the walk
pub walk-open : (n : ℕ) (m : Resolutions) (seen : List PromId) (p : PromId) → came p seen ≡ false → m p ≡ None → walk (suc n) m seen (promise p) ≡ onward p None (λ u. circled)
unfolding walk
walk-open n m seen p e f = ap (λ b. cond b circled (onward p (m p) (λ u. walk n m (seen ++ p ∷ []) u))) e ∙ ap (λ o. onward p o (λ u. walk n m (seen ++ p ∷ []) u)) f

-- a resolved promise leads on
pub walk-on : (n : ℕ) (m : Resolutions) (seen : List PromId) (p : PromId) (v : Val) → came p seen ≡ false → m p ≡ Some v → walk (suc n) m seen (promise p) ≡ onward p (Some v) (λ u. walk n m (seen ++ p ∷ []) u)
unfolding walk
walk-on n m seen p v e f = ap (λ b. cond b circled (onward p (m p) (λ u. walk n m (seen ++ p ∷ []) u))) e ∙ ap (λ o. onward p o (λ u. walk n m (seen ++ p ∷ []) u)) f
