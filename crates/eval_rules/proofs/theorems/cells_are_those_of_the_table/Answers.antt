use Rattle.eval_rules.proofs.Table.{ends_foot}
use Rattle.eval_rules.proofs.theorems.cells_are_those_of_the_table.Goals as goal

pub returns : goal.returns
returns c = λ k t a b o r. ends_foot r
