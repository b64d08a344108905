-- What is kept beside the items of a list.
use Rattle.std.specs.Prelude.{◌≡◌, ◌≤◌, ℕ, Bool}
use Rattle.values.specs.Data.{Vals}
use Rattle.values.specs.Limits.{weights, deepest}
use Rattle.values.specs.Promises.{promises_in}
use Rattle.values.specs.declared.limits.TheConstants.{MOST_ITEMS_WEIGHT, MOST_ITEMS_DEPTH}

-- what the items weigh, how deep lists stand in them, and whether a promise does; a list of them is not too large
pub record IsMeasured (w d : ℕ) (p : Bool) (vs : Vals) : Type 0 where
  pub weight : w ≡ weights vs
  pub depth : d ≡ deepest vs
  pub promise : p ≡ promises_in vs
  pub light : weights vs ≤ MOST_ITEMS_WEIGHT
  pub shallow : deepest vs ≤ MOST_ITEMS_DEPTH
