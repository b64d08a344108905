use Rattle.std.proofs.Common.{rules}
use Rattle.ereader_nodes.proofs.Views.{tree_of-try}
use Rattle.ereader_nodes.proofs.nodes.try_catch.Goals as goal

pub returns : goal.returns
returns c = tree_of-try c.in_ok-body.body c.args.pattern c.in_ok-handler.handler c.args.body c.args.handler (search rules) (search rules)
