use Rattle.std.proofs.Common.{rules}
use Rattle.ereader_nodes.proofs.Views.{tree_of-while}
use Rattle.ereader_nodes.proofs.nodes.repeat_while.Goals as goal

pub returns : goal.returns
returns c = tree_of-while c.args.condition c.in_ok-body.body c.args.body (search rules)
