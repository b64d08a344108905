use Rattle.std.proofs.Common.{refl}
use Rattle.stepper_printing.proofs.Listings.{by_birth_along}
use Rattle.stepper_printing.proofs.enabled.choice_of.Goals as goal

pub returns : goal.returns
returns c = record { vats = c.in_ok-vats.vats.entries; vats_listed = by_birth_along _ _ c.in_ok-vats.vats.entries c.in_ok-names.ensures c.in_ok-vats.ensures; whole = refl }
