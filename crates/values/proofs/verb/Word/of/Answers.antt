use Rattle.std.proofs.Common.{rules}
use Rattle.values.proofs.verb.Word.of.Goals as goal

pub returns-in-negate : goal.returns-in-negate
returns-in-negate c = search rules
