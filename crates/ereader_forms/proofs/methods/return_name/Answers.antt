use Rattle.std.proofs.Common.{rules}
use Rattle.ereader_forms.proofs.methods.return_name.Goals as goal

pub returns : goal.returns
returns c = search rules
