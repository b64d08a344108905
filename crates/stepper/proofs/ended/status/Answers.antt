use Rattle.std.proofs.Common.{rules}
use Rattle.stepper.proofs.ended.status.Goals as goal

pub returns-in-Ran-Ok : goal.returns-in-Ran-Ok
returns-in-Ran-Ok c = search rules
