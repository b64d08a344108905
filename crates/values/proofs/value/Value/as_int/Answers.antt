use Rattle.std.proofs.Common.{rules}
use Rattle.values.proofs.value.Value.as_int.Goals as goal

pub returns-in-Int : goal.returns-in-Int
returns-in-Int c = search rules
