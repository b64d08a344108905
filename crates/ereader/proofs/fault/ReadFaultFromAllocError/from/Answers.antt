use Rattle.std.proofs.Common.{rules}
use Rattle.ereader.proofs.fault.ReadFaultFromAllocError.from.Goals as goal

pub returns : goal.returns
returns c = search rules
