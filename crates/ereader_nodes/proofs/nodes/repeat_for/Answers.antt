use Rattle.std.proofs.Common.{rules}
use Rattle.ereader_nodes.proofs.Views.{tree_of-for}
use Rattle.ereader_nodes.proofs.nodes.repeat_for.Goals as goal

pub returns : goal.returns
returns c = tree_of-for c.args.pattern c.args.list c.in_ok-body.body c.args.body (search rules)
