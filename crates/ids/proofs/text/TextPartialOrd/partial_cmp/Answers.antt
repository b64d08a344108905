use Rattle.std.proofs.Common.{rules}
use Rattle.ids.proofs.text.TextPartialOrd.partial_cmp.Goals as goal

pub returns : goal.returns
returns c = search rules
