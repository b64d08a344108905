use Rattle.std.proofs.Common.{rules}
use Rattle.kernele.proofs.printing.print.Goals as goal

pub returns : goal.returns
returns c = search rules
