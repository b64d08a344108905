use Rattle.std.proofs.Common.{rules}
use Rattle.ereader_signs.proofs.stop.ReadStopFromAllocFailed.from.Goals as goal

pub returns : goal.returns
returns g c = search rules
