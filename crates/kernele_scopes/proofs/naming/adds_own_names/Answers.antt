use Rattle.kernele_scopes.proofs.Growth.{all_grow}
use Rattle.kernele_scopes.proofs.naming.adds_own_names.Goals as goal

pub returns : goal.returns
returns c = all_grow
