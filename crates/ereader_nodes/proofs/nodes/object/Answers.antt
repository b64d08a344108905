use Rattle.std.proofs.Common.{rules}
use Rattle.ereader_nodes.proofs.Views.{tree_of-object}
use Rattle.ereader_nodes.proofs.nodes.object.Goals as goal

pub returns : goal.returns
returns c = tree_of-object c.args.pattern c.in_ok-new.field-0 c.args.methods (search rules)
