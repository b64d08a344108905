use Rattle.sends.proofs.Followed.{ends_are_followed}
use Rattle.sends.proofs.Settled.{settled_alike}
use Rattle.sends.proofs.theorems.ends_are_those_of_the_views.Goals as goal

pub returns : goal.returns
returns c = record { ends = ends_are_followed; settled = settled_alike }
