use Rattle.std.proofs.Common.{rules}
use Rattle.ereader_nodes.proofs.nodes.integer.Goals as goal

pub returns : goal.returns
returns c = search rules
