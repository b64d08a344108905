use Rattle.std.proofs.Common.{rules}
use Rattle.values.proofs.verb.Verb.word.Goals as goal

pub returns : goal.returns
returns c = search rules
