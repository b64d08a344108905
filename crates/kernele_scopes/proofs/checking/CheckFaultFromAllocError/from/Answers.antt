use Rattle.std.proofs.Common.{rules}
use Rattle.kernele_scopes.proofs.checking.CheckFaultFromAllocError.from.Goals as goal

pub returns : goal.returns
returns c = search rules
