use Rattle.std.proofs.Common.{refl}
use Rattle.kernele_scopes.proofs.theorems.limits_are_numbers.Goals as goal

pub returns : goal.returns
returns c = (refl, refl)
