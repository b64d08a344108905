use Rattle.std.proofs.Common.{rules}
use Rattle.ereader_signs.proofs.operator.CallSign.bracket.Goals as goal

pub returns-in-Index : goal.returns-in-Index
returns-in-Index c = search rules
