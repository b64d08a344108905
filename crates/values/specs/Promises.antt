-- Promises in values.
use Rattle.std.specs.Prelude.{Bool, true, false, ◌||◌, cond, codes, Option, Some, None}
use Rattle.ids.specs.declared.names.PromId.{PromId}
use Rattle.values.specs.Data.{Val, bool, list, promise, Vals, no_vals, and_val, Reply, gives, throws}
use Rattle.values.specs.Same.{same_as}

-- the promise that a value is
abbrev pub promise_of : Val → Option PromId
promise_of (promise p) = Some p
promise_of _ = None

-- whether a promise stands in a value, at any depth
abbrev mutual
  pub promise_in : Val → Bool
  promise_in (promise p) = true
  promise_in (list vs) = promises_in vs
  promise_in _ = false

  pub promises_in : Vals → Bool
  promises_in no_vals = false
  promises_in (and_val v vs) = promise_in v || promises_in vs

-- whether two settled forms are the same; where a promise stands in one of them, that is not known yet
abbrev pub same_reply : Val → Val → Reply
same_reply v w = cond (promise_in v || promise_in w) (throws (codes "not settled")) (gives (bool (same_as v w)))
