-- What is claimed of a call that failed.
use Rattle.std.proofs.Common.{◌≡◌, true, Result, Ok, Err, sym}
use Rattle.std.proofs.lemmas.Bool.{true≢false}
use Rattle.std.specs.Result.{IfOk, is_err}

-- nothing
pub claims_nothing : {T E : Type 0} (r : Result T E) (claim : T → Type 0) → is_err r ≡ true → IfOk r claim
claims_nothing (Ok x) claim e = absurd (true≢false (sym e))
claims_nothing (Err y) claim e = tt
