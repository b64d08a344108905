use Rattle.std.proofs.Common.{ℕ, ◌-◌, ◌≤◌, drop, Option}
use Rattle.std.specs.Option.{SomeIff}
use Rattle.values.specs.Limits.{weights, deepest}
use Rattle.values.specs.View.{vals_of}
use Rattle.values.proofs.limits.items_left.Given as goal

-- what the other items leave from here is what all items leave from the start
abbrev pub invariant-loop-item : goal.invariant-loop-item
invariant-loop-item l =
    (r : Option ℕ) → SomeIff r ((weights (vals_of (drop l.item-index l.items)) ≤ l.left) × (deepest (vals_of (drop l.item-index l.items)) ≤ l.depth)) (l.left - weights (vals_of (drop l.item-index l.items)))
    → SomeIff r ((weights (vals_of l.items) ≤ l.weight) × (deepest (vals_of l.items) ≤ l.depth)) (l.weight - weights (vals_of l.items))
