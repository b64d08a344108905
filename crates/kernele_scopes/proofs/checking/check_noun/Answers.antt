use Rattle.std.proofs.Common.{rules}
use Rattle.kernele_scopes.proofs.checking.check_noun.Goals as goal

pub returns-in_ok-share : goal.returns-in_ok-share
returns-in_ok-share c = search rules
