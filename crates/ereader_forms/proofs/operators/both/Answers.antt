use Rattle.std.proofs.Common.{rules}
use Rattle.ereader_forms.proofs.operators.both.Goals as goal

pub returns : goal.returns
returns c = search rules
