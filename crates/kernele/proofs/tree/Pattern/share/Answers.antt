use Rattle.std.proofs.Common.{rules}
use Rattle.kernele.proofs.tree.Pattern.share.Goals as goal

pub returns-in_ok-share-in-Name : goal.returns-in_ok-share-in-Name
returns-in_ok-share-in-Name c = search rules
