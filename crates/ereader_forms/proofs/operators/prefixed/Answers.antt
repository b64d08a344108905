use Rattle.std.proofs.Common.{rules}
use Rattle.ereader_forms.proofs.operators.prefixed.Goals as goal

pub returns-in-Not : goal.returns-in-Not
returns-in-Not c = search rules
