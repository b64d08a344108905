use Rattle.std.proofs.Common.{rules}
use Rattle.ereader_nodes.proofs.Views.{tree_of-sent}
use Rattle.ereader_nodes.proofs.nodes.send.Goals as goal

pub returns : goal.returns
returns c = tree_of-sent c.args.receiver c.args.verb c.in_ok-sent.sent c.args.args (search rules)
