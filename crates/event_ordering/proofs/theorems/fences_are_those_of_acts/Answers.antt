use Rattle.event_ordering.proofs.Ending.{deliveries_act, learning_acts_do}
use Rattle.event_ordering.proofs.theorems.fences_are_those_of_acts.Goals as goal

pub returns-clause-deliveries : goal.returns-clause-deliveries
returns-clause-deliveries c = deliveries_act

pub returns-clause-learning : goal.returns-clause-learning
returns-clause-learning c = learning_acts_do
