use Rattle.std.proofs.Common.{rules}
use Rattle.ereader_nodes.proofs.Views.{tree_of-chosen}
use Rattle.ereader_nodes.proofs.nodes.choose.Goals as goal

pub returns : goal.returns
returns c = tree_of-chosen c.args.condition c.in_ok-first.first c.in_ok-second.second c.args.first c.args.second (search rules) (search rules)
