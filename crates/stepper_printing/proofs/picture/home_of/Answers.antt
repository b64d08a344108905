use Rattle.std.proofs.Common.{refl}
use Rattle.stepper_printing.proofs.picture.home_of.Goals as goal

pub returns : goal.returns
returns c = record { number = refl; name = c.in_ok-share.ensures; lines = c.in_ok-held_by.ensures }
