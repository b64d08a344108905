use Rattle.std.proofs.Common.{arith, not}
use Rattle.stepper_commands.specs.Words.{is_blank}
use Rattle.stepper_commands.proofs.Places.{place_or}
use Rattle.stepper_commands.proofs.words.blanks_end.Goals as goal

pub returns : goal.returns
returns c = grind (arith, place_or (λ b. not (is_blank b)) c.args.text.now)
