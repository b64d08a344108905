use Rattle.std.proofs.Common.{rules}
use Rattle.eval_rules.proofs.Captures.{given_none}
use Rattle.eval_rules.proofs.escapes.given.Goals as goal

pub returns-else-args-eq1 : goal.returns-else-args-eq1
returns-else-args-eq1 c = given_none c.args.args.now (search rules) c.if-args-eq1.false
