use Rattle.std.proofs.Common.{rules}
use Rattle.eval_rules.proofs.escapes.close_escape.Goals as goal

pub returns-clause-place : goal.returns-clause-place
returns-clause-place c = search rules
