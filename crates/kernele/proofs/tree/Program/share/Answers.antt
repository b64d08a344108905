use Rattle.std.proofs.Common.{rules}
use Rattle.kernele.proofs.tree.Program.share.Goals as goal

pub returns : goal.returns
returns c = search rules
