use Rattle.std.proofs.Common.{rules}
use Rattle.values.proofs.value.Value.share.Goals as goal

pub returns-in-Bool : goal.returns-in-Bool
returns-in-Bool c = search rules
