use Rattle.std.proofs.Common.{rules}
use Rattle.values.proofs.verb.Verb.as_str.Goals as goal

pub returns : goal.returns
returns c = search rules
