use Rattle.std.proofs.Common.{◌≡◌, ◌≤◌, ◌+◌, drop}
use Rattle.values.specs.Limits.{weights, deepest}
use Rattle.values.specs.Replies.{joined}
use Rattle.values.specs.View.{vals_of}
use Rattle.values.proofs.value.Items.extend.Given as goal

-- the other items have room
abbrev pub invariant-loop-item : goal.invariant-loop-item
invariant-loop-item l = record {
  items : joined l.self (vals_of (drop l.item-index l.items)) ≡ joined l.initial.self (vals_of l.items);
  light : weights l.self + weights (vals_of (drop l.item-index l.items)) ≤ 65535;
  shallow : deepest (vals_of (drop l.item-index l.items)) ≤ 63;
}
