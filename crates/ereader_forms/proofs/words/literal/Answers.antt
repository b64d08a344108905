use Rattle.std.proofs.Common.{rules}
use Rattle.ereader_forms.proofs.words.literal.Goals as goal

pub returns-in-True : goal.returns-in-True
returns-in-True c = search rules
