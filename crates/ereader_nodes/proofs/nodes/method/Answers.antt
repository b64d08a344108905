use Rattle.std.proofs.Common.{rules}
use Rattle.ereader_nodes.proofs.Views.{method_of-made}
use Rattle.ereader_nodes.proofs.nodes.method.Goals as goal

pub returns : goal.returns
returns c = method_of-made c.args.verb c.in_ok-parameters.parameters c.in_ok-body.body c.args.parameters c.args.body (search rules) (search rules)
