use Rattle.std.proofs.Common.{rules}
use Rattle.kernele.proofs.printing.needs_brackets.Goals as goal

pub returns-in-Def : goal.returns-in-Def
returns-in-Def c = search rules
