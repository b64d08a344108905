-- Where the walk of a value goes and ends, as a function.
use Rattle.std.specs.Prelude.{ℕ, zero, suc, ◌^◌, Bool, cond, Option, Some, None, List, [], ◌∷◌, ◌++◌}
use Rattle.std.specs.List.{list_any}
use Rattle.std.specs.Option.{unwrap_or}
use Rattle.ids.specs.KeyLaws.{same_three}
use Rattle.ids.specs.declared.names.PromId.{PromId}
use Rattle.values.specs.Data.{Val, promise}
use Rattle.values.specs.Promises.{promise_of}

-- what each promise was resolved to, if it was
abbrev pub Resolutions : Type 0
Resolutions = PromId → Option Val

-- whether two promises are the same, by name
abbrev pub same_promise : PromId → PromId → Bool
same_promise p q = same_three p.event.0 q.event.0 p.index q.index p.home.0.0 q.home.0.0

-- whether a promise is among some
abbrev pub came : PromId → List PromId → Bool
came p qs = list_any (λ q. same_promise q p) qs

-- the promises that a walk goes through, in order, and the value at which it ends, if it ends
pub record Walk : Type 0 where
  pub through : List PromId
  pub end : Option Val

-- a walk that goes no further: at its end, or where it comes to a promise again
abbrev pub ended : Val → Walk
ended v = record { through = []; end = Some v }

abbrev pub circled : Walk
circled = record { through = []; end = None }

-- a promise, and the walk of what it was resolved to; an unresolved one is the end
abbrev pub onward : PromId → Option Val → (Val → Walk) → Walk
onward p None rest = record { through = p ∷ []; end = Some (promise p) }
onward p (Some v) rest = record { through = p ∷ (rest v).through; end = (rest v).end }

-- one step of a walk from a value, by the promise that it is
abbrev pub stepped : Resolutions → List PromId → Val → Option PromId → (PromId → Val → Walk) → Walk
stepped m seen v None rest = ended v
stepped m seen v (Some p) rest = cond (came p seen) circled (onward p (m p) (rest p))

-- the same, where no promise may be gone through any more
abbrev pub stopped : Val → Option PromId → Walk
stopped v None = ended v
stopped v (Some p) = circled

-- the walk of a value behind the promises that were seen, through at most so many promises
unfoldable pub walk : ℕ → Resolutions → List PromId → Val → Walk
walk zero m seen v = stopped v (promise_of v)
walk (suc n) m seen v = stepped m seen v (promise_of v) (λ p u. walk n m (seen ++ p ∷ []) u)

-- through how many promises a walk may go: more than any memory holds
unfoldable pub most_walked : ℕ
most_walked = 2 ^ 64

-- the promises that the walk of a value goes through
abbrev pub walked : Resolutions → Val → List PromId
walked m v = (walk most_walked m [] v).through

-- the end of a value; a value without an end counts as an unresolved promise, and stands for itself
abbrev pub followed : Resolutions → Val → Val
followed m v = unwrap_or (walk most_walked m [] v).end v
