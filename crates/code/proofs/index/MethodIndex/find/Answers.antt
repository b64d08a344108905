use Rattle.std.proofs.Common.{rules}
use Rattle.code.proofs.index.MethodIndex.find.Goals as goal

pub returns : goal.returns
returns c = search rules
