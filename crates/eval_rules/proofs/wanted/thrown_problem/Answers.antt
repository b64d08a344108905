use Rattle.std.proofs.Common.{rules}
use Rattle.eval_rules.proofs.wanted.thrown_problem.Goals as goal

pub returns-in-Null : goal.returns-in-Null
returns-in-Null c = search rules
