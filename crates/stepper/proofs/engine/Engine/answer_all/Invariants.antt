-- The commands that were taken are answered. No more lines are taken than can be counted.
use Rattle.std.proofs.Common.{◌-◌, ◌^◌}
use Rattle.stepper_streams.specs.Lines.{lines_taken}
use Rattle.stepper.proofs.Going.{Going}
use Rattle.stepper.proofs.engine.Engine.answer_all.Given as goal

abbrev pub invariant-commands : goal.invariant-commands
invariant-commands g l = Going g.R.Read.remaining g.W.Write.contents l.initial.self.limits l.initial.source l.source l.initial.sink l.sink l.self

abbrev pub decreases-commands : goal.decreases-commands
decreases-commands g l = 2 ^ 64 - lines_taken l.source
