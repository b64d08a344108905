use Rattle.std.proofs.Common.{rules}
use Rattle.ereader_nodes.proofs.Views.{tree_of-made}
use Rattle.ereader_nodes.proofs.nodes.call.Goals as goal

pub returns : goal.returns
returns c = tree_of-made c.args.receiver c.args.verb c.in_ok-args.args c.args.args (search rules)
