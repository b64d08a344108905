use Rattle.std.proofs.Common.{rules}
use Rattle.stepper_commands.proofs.numbers.promise_named.Goals as goal

pub returns : goal.returns
returns c = search rules
