use Rattle.eorder.proofs.FenceSets.{fences_are_sets, rules_are_acts}
use Rattle.eorder.proofs.theorems.fences_are_sets.Goals as goal

pub returns-clause-sets : goal.returns-clause-sets
returns-clause-sets c = fences_are_sets

pub returns-clause-rules : goal.returns-clause-rules
returns-clause-rules c = rules_are_acts
