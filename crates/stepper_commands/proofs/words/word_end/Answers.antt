use Rattle.std.proofs.Common.{arith}
use Rattle.stepper_commands.specs.Words.{is_blank}
use Rattle.stepper_commands.proofs.Places.{place_or}
use Rattle.stepper_commands.proofs.words.word_end.Goals as goal

pub returns : goal.returns
returns c = grind (arith, place_or is_blank c.args.text.now)
