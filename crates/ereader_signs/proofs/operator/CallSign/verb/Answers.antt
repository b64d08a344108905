use Rattle.std.proofs.Common.{rules}
use Rattle.ereader_signs.proofs.operator.CallSign.verb.Goals as goal

pub returns : goal.returns
returns c = search rules
