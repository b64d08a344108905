use Rattle.std.proofs.Common.{rules}
use Rattle.kernele_scopes.proofs.checking.check_assigned.Goals as goal

pub returns-in_ok-share-in-Some-Definition : goal.returns-in_ok-share-in-Some-Definition
returns-in_ok-share-in-Some-Definition c = search rules
