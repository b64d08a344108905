use Rattle.event_ordering.proofs.Runs.{runs_are_deeds, runs_keep_order, runs_in_order, journals_keep_order}
use Rattle.event_ordering.proofs.theorems.turns_keep_the_order_of_messages.Goals as goal

pub returns-clause-deeds : goal.returns-clause-deeds
returns-clause-deeds c = runs_are_deeds

pub returns-clause-runs : goal.returns-clause-runs
returns-clause-runs c = runs_keep_order

pub returns-clause-in_order : goal.returns-clause-in_order
returns-clause-in_order c = runs_in_order

pub returns-clause-journals : goal.returns-clause-journals
returns-clause-journals c = journals_keep_order
