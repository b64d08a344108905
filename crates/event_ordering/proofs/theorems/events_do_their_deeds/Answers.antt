use Rattle.event_ordering.proofs.Steps.{step_law}
use Rattle.event_ordering.proofs.theorems.events_do_their_deeds.Goals as goal

pub returns : goal.returns
returns c = step_law
