-- How large a value may be.
use Rattle.std.specs.Prelude.{ℕ, ◌+◌, max, length, Bool, ◌&&◌, nat_le}
use Rattle.values.specs.Data.{Val, text, list, broken, Vals, no_vals, and_val}
use Rattle.values.specs.declared.limits.TheConstants.{MOST_WEIGHT, MOST_DEPTH}

-- a value weighs 1, and with it the bytes of a text or of a problem, or a list's items
abbrev mutual
  pub weight : Val → ℕ
  weight (text s) = 1 + length s
  weight (broken problem) = 1 + length problem
  weight (list vs) = 1 + weights vs
  weight _ = 1

  pub weights : Vals → ℕ
  weights no_vals = 0
  weights (and_val v vs) = weight v + weights vs

-- how deep lists stand in a value: 1 for a list of no lists, 0 for no list
abbrev mutual
  pub list_depth : Val → ℕ
  list_depth (list vs) = 1 + deepest vs
  list_depth _ = 0

  pub deepest : Vals → ℕ
  deepest no_vals = 0
  deepest (and_val v vs) = max (list_depth v) (deepest vs)

-- a value is no heavier than a value may be, and its lists stand no deeper
abbrev pub within_limits : Val → Bool
within_limits v = nat_le (weight v) MOST_WEIGHT && nat_le (list_depth v) MOST_DEPTH
