-- Where the walk of a value goes and ends, by rules.
use Rattle.std.specs.Prelude.{◌≡◌, true, false, Some, None, List, [], ◌∷◌, ◌++◌}
use Rattle.ids.specs.declared.names.PromId.{PromId}
use Rattle.values.specs.Data.{Val, promise}
use Rattle.values.specs.Promises.{promise_of}
use Rattle.refs.specs.Walks.{Resolutions, came}

-- a value leads through promises to its end
pub data Leads (m : Resolutions) : Val → List PromId → Val → Type 0 where
  -- a value that is no promise is its own end
  at_value : (v : Val) → promise_of v ≡ None → Leads m v [] v
  -- so is an unresolved promise
  at_open : (p : PromId) → m p ≡ None → Leads m (promise p) (p ∷ []) (promise p)
  -- a resolved promise leads on
  leads_on : (p : PromId) (v w : Val) (ps : List PromId) → m p ≡ Some v → Leads m v ps w → Leads m (promise p) (p ∷ ps) w

-- behind the promises that were seen a value leads through others back to one of them
pub data Returns (m : Resolutions) : List PromId → Val → List PromId → Type 0 where
  comes_back : (seen : List PromId) (p : PromId) → came p seen ≡ true → Returns m seen (promise p) []
  goes_on : (seen : List PromId) (p : PromId) (v : Val) (ps : List PromId) → came p seen ≡ false → m p ≡ Some v → Returns m (seen ++ p ∷ []) v ps → Returns m seen (promise p) (p ∷ ps)

-- a value leads into a ring: through promises, each once, back to one of them
abbrev pub Circles : Resolutions → Val → List PromId → Type 0
Circles m v ps = Returns m [] v ps
