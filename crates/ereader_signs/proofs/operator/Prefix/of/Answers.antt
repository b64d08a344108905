use Rattle.std.proofs.Common.{rules}
use Rattle.ereader_signs.proofs.operator.Prefix.of.Goals as goal

pub returns-in-Minus : goal.returns-in-Minus
returns-in-Minus c = search rules
