use Rattle.std.proofs.Common.{rules}
use Rattle.values.proofs.calls.data_call.Goals as goal

pub returns : goal.returns
returns c = search rules
