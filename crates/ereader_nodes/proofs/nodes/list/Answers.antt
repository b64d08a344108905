use Rattle.std.proofs.Common.{rules}
use Rattle.ereader_nodes.proofs.Views.{tree_of-listed}
use Rattle.ereader_nodes.proofs.nodes.list.Goals as goal

pub returns : goal.returns
returns c = tree_of-listed c.in_ok-new.field-0 c.args.items (search rules)
