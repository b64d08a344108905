use Rattle.code.proofs.Newest.{inside, outside}
use Rattle.code.proofs.theorems.places_are_newest.Goals as goal

pub returns : goal.returns
returns c = record { inside = inside; outside = outside }
