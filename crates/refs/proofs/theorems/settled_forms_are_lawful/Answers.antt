use Rattle.refs.proofs.Open.{within_limits_then, open_then, settles_to_itself, list_of_itself_has_none}
use Rattle.refs.proofs.Unfolding.{settles_as_it_unfolds, one_unfolding}
use Rattle.refs.proofs.theorems.settled_forms_are_lawful.Goals as goal

pub returns : goal.returns
returns c = record { by_rules = settles_as_it_unfolds; one = one_unfolding; within = within_limits_then; open_promises = open_then; again = settles_to_itself; unfolded = list_of_itself_has_none }
