use Rattle.std.proofs.Common.{rules}
use Rattle.ereader_signs.proofs.stop.ReadStopFromAllocError.from.Goals as goal

pub returns : goal.returns
returns c = search rules
