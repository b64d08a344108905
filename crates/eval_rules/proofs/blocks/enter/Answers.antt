use Rattle.std.proofs.Common.{rules}
use Rattle.eval_rules.proofs.blocks.enter.Goals as goal

pub returns-clause-place : goal.returns-clause-place
returns-clause-place c = search rules
