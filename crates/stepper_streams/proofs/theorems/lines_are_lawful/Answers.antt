use Rattle.stepper_streams.proofs.Lawful.{first_is_taken}
use Rattle.stepper_streams.proofs.theorems.lines_are_lawful.Goals as goal

pub returns-clause-first : goal.returns-clause-first
returns-clause-first g c = first_is_taken g.R.Read.remaining
