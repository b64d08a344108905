use Rattle.kernele_scopes.proofs.Lawful.{scripts_are_checked, asked_are_checked}
use Rattle.kernele_scopes.proofs.theorems.scopes_are_lawful.Goals as goal

pub returns-clause-scripts : goal.returns-clause-scripts
returns-clause-scripts c = scripts_are_checked

pub returns-clause-asked : goal.returns-clause-asked
returns-clause-asked c = asked_are_checked
