use Rattle.std.proofs.Common.{rules}
use Rattle.values.proofs.showing.show.Goals as goal

pub returns : goal.returns
returns c = search rules
