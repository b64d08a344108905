use Rattle.std.proofs.Common.{rules}
use Rattle.eval_rules.proofs.end.Abandon.reason.Goals as goal

pub returns-in-Budget : goal.returns-in-Budget
returns-in-Budget c = search rules
