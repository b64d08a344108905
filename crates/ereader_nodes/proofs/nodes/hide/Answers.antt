use Rattle.std.proofs.Common.{rules}
use Rattle.ereader_nodes.proofs.Views.{tree_of-hidden}
use Rattle.ereader_nodes.proofs.nodes.hide.Goals as goal

pub returns : goal.returns
returns c = tree_of-hidden c.in_ok-new.field-0 c.args.body (search rules)
