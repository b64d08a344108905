use Rattle.std.proofs.Common.{rules}
use Rattle.heap.proofs.state.Binding.share.Goals as goal

pub returns-in-Slot : goal.returns-in-Slot
returns-in-Slot c = search rules
