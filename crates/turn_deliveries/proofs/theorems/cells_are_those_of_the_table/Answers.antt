use Rattle.turn_deliveries.proofs.Table.{delivery_by_table}
use Rattle.turn_deliveries.proofs.theorems.cells_are_those_of_the_table.Goals as goal

pub returns : goal.returns
returns c = λ g f e v s n o r. delivery_by_table r
