use Rattle.std.proofs.Common.{◌≡◌, drop}
use Rattle.values.specs.Replies.{joined}
use Rattle.values.specs.View.{vals_of}
use Rattle.values.proofs.lists.append.Given as goal

abbrev pub invariant-loop-item : goal.invariant-loop-item
invariant-loop-item l = joined (vals_of l.list.items) (vals_of (drop l.item-index l.items)) ≡ joined (vals_of l.initial.list.items) (vals_of l.items)
