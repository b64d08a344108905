use Rattle.std.proofs.Common.{is_some}
use Rattle.std.specs.Arc.{arc_value}
use Rattle.heap.specs.View.{state_of}
use Rattle.heap.specs.Found.{written_part, standing_over}
use Rattle.heap.proofs.reach.Reach.new.Goals as goal

pub returns-clause-state : goal.returns-clause-state
returns-clause-state c = λ i k. standing_over (c.new.ensures k i) (state_of (arc_value c.args.state) k)

pub returns-clause-touched : goal.returns-clause-touched
returns-clause-touched c = λ i k. is_some (c.new.ensures k i)

pub returns-clause-written : goal.returns-clause-written
returns-clause-written c = λ i k. written_part (c.new.ensures k i)
