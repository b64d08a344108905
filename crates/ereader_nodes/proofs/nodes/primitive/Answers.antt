use Rattle.std.proofs.Common.{rules}
use Rattle.ereader_nodes.proofs.nodes.primitive.Goals as goal

pub returns : goal.returns
returns c = search rules
