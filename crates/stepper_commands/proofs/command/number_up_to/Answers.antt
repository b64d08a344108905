use Rattle.std.proofs.Common.{rules}
use Rattle.stepper_commands.proofs.command.number_up_to.Goals as goal

pub returns : goal.returns
returns c = search rules
