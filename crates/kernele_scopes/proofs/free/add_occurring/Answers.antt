use Rattle.std.proofs.Common.{rules}
use Rattle.kernele_scopes.proofs.free.add_occurring.Goals as goal

pub returns : goal.returns
returns c = search rules
