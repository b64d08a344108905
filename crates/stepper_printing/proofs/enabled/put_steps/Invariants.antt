use Rattle.std.proofs.Common.{drop}
use Rattle.stepper_streams.proofs.Giving.{LeadsTo}
use Rattle.stepper_printing.specs.Steps.{step_lines}
use Rattle.stepper_printing.proofs.enabled.put_steps.Given as goal

-- what may be put of those that are left leads to all
abbrev pub invariant-loop-step : goal.invariant-loop-step
invariant-loop-step g l = LeadsTo g.W.Write.contents l.fn.out l.out (step_lines l.vats.entries (drop l.step-index l.steps)) (step_lines l.vats.entries l.steps)
