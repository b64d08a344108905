use Rattle.std.proofs.Common.{arith}
use Rattle.std.proofs.lemmas.Grind.{common_steps}
use Rattle.values.proofs.integers.floor_quotient.Goals as goal

pub returns : goal.returns
returns c = grind (arith, common_steps)
