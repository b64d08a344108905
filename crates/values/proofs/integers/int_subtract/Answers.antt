use Rattle.std.proofs.Common.{rules, tests}
use Rattle.std.proofs.lemmas.Grind.{common_steps}
use Rattle.values.proofs.integers.int_subtract.Goals as goal

pub returns-in-Some : goal.returns-in-Some
returns-in-Some c = search (tests, rules, common_steps)
