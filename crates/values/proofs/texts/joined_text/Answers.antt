use Rattle.std.proofs.Common.{rules}
use Rattle.values.proofs.texts.joined_text.Goals as goal

pub returns : goal.returns
returns c = search rules
