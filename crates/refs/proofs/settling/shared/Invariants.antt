use Rattle.std.proofs.Common.{◌≡◌, drop}
use Rattle.values.specs.Replies.{joined}
use Rattle.values.specs.View.{vals_of}
use Rattle.refs.proofs.settling.shared.Given as goal

abbrev pub invariant-loop-item : goal.invariant-loop-item
invariant-loop-item l = joined (vals_of l.row.items) (vals_of (drop l.item-index l.items)) ≡ vals_of l.items
