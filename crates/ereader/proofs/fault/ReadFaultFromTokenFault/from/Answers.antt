use Rattle.std.proofs.Common.{rules}
use Rattle.ereader.proofs.fault.ReadFaultFromTokenFault.from.Goals as goal

pub returns-in-TooLong : goal.returns-in-TooLong
returns-in-TooLong c = search rules
