use Rattle.std.proofs.Common.{rules}
use Rattle.ereader_signs.proofs.operator.CallSign.of.Goals as goal

pub returns-in-OpenSquare : goal.returns-in-OpenSquare
returns-in-OpenSquare c = search rules
