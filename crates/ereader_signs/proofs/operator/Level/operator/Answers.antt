use Rattle.std.proofs.Common.{rules}
use Rattle.ereader_signs.proofs.operator.Level.operator.Goals as goal

pub returns-in-Less : goal.returns-in-Less
returns-in-Less c = rw (c.in-Comparison.is, c.in-Less.is)

pub returns-in-Times : goal.returns-in-Times
returns-in-Times c = search rules
