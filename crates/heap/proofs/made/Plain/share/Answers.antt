use Rattle.std.proofs.Common.{rules}
use Rattle.heap.proofs.made.Plain.share.Goals as goal

pub invariant_of-result : goal.invariant_of-result
invariant_of-result c = search rules
