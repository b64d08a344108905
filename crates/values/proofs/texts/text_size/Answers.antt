use Rattle.std.proofs.Common.{rules}
use Rattle.values.proofs.texts.text_size.Goals as goal

pub returns : goal.returns
returns c = search rules
