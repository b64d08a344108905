use Rattle.std.proofs.Common.{rules}
use Rattle.etoken.proofs.table.escape.Goals as goal

pub returns-in-110-clause-value : goal.returns-in-110-clause-value
returns-in-110-clause-value c = search rules
