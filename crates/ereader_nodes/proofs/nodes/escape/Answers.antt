use Rattle.std.proofs.Common.{rules}
use Rattle.ereader_nodes.proofs.Views.{tree_of-escaped}
use Rattle.ereader_nodes.proofs.nodes.escape.Goals as goal

pub returns : goal.returns
returns c = tree_of-escaped c.args.name c.in_ok-new.field-0 c.args.body (search rules)
