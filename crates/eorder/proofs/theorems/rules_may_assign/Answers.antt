use Rattle.eorder.proofs.Assigned.{assigned_is_added, rules_may_assign}
use Rattle.eorder.proofs.theorems.rules_may_assign.Goals as goal

pub returns-clause-place : goal.returns-clause-place
returns-clause-place c = assigned_is_added

pub returns-clause-history : goal.returns-clause-history
returns-clause-history c = rules_may_assign
