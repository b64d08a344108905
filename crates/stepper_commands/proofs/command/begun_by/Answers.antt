use Rattle.std.proofs.Common.{rules}
use Rattle.stepper_commands.proofs.command.begun_by.Goals as goal

pub returns-in_default : goal.returns-in_default
returns-in_default c = search rules
