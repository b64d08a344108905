use Rattle.std.proofs.Common.{rules}
use Rattle.values.proofs.limits.is_within_limits.Goals as goal

pub returns : goal.returns
returns c = search rules
