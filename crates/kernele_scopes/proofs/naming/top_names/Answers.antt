use Rattle.std.proofs.Common.{rules}
use Rattle.kernele_scopes.proofs.naming.top_names.Goals as goal

pub returns : goal.returns
returns c = search rules
