use Rattle.std.proofs.Common.{rules}
use Rattle.ereader_nodes.proofs.Views.{tree_of-when}
use Rattle.ereader_nodes.proofs.nodes.when.Goals as goal

pub returns : goal.returns
returns c = tree_of-when c.args.value c.in_ok-body.body c.args.body (search rules)
