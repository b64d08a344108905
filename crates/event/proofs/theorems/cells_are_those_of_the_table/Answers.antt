use Rattle.event.proofs.Table.{turns_touch, vats_learn, abandoned_turns}
use Rattle.event.proofs.theorems.cells_are_those_of_the_table.Goals as goal

pub returns : goal.returns
returns c = record { turns = turns_touch; learns = vats_learn; abandoned = abandoned_turns }
