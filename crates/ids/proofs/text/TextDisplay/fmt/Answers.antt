use Rattle.std.proofs.Common.{rules}
use Rattle.ids.proofs.text.TextDisplay.fmt.Goals as goal

pub returns-clause-writes : goal.returns-clause-writes
returns-clause-writes c = search rules
