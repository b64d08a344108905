-- Laws of walks and of settled forms.
use Rattle.std.specs.Prelude.{◌≡◌, ◌^◌, ◌<◌, ◌↔◌, true, Some, None, List, [], length, ◌⊎◌}
use Rattle.ids.specs.declared.names.PromId.{PromId}
use Rattle.values.specs.Data.{Val, list, promise, Vals, no_vals, and_val}
use Rattle.values.specs.Limits.{within_limits}
use Rattle.refs.specs.Walks.{Resolutions, walk, most_walked, walked}
use Rattle.refs.specs.Leads.{Leads, Circles}
use Rattle.refs.specs.Settling.{settling}
use Rattle.refs.specs.Unfolds.{Unfolds}

-- where the function ends, the rules lead
abbrev pub WhatEndsIsLed : Type 0
WhatEndsIsLed = (m : Resolutions) (v w : Val) → (walk most_walked m [] v).end ≡ Some w → Leads m v (walked m v) w

-- where it has no end, the rules lead into a ring
abbrev pub WhatHasNoEndCircles : Type 0
WhatHasNoEndCircles = (m : Resolutions) (v : Val) → (walk most_walked m [] v).end ≡ None → length (walked m v) < 2 ^ 64 → Circles m v (walked m v)

-- where the rules lead, through fewer promises than 2 ^ 64, the function ends
abbrev pub WhatIsLedEnds : Type 0
WhatIsLedEnds = (m : Resolutions) (v w : Val) (ps : List PromId) → Leads m v ps w → length ps < 2 ^ 64 → (walked m v ≡ ps) × ((walk most_walked m [] v).end ≡ Some w)

-- where they lead into a ring, it has no end
abbrev pub WhatCirclesHasNoEnd : Type 0
WhatCirclesHasNoEnd = (m : Resolutions) (v : Val) (ps : List PromId) → Circles m v ps → length ps < 2 ^ 64 → (walked m v ≡ ps) × ((walk most_walked m [] v).end ≡ None)

-- the rules lead to at most one end
abbrev pub OneEnd : Type 0
OneEnd = (m : Resolutions) (v w x : Val) (ps qs : List PromId) → Leads m v ps w → Leads m v qs x → (ps ≡ qs) × (w ≡ x)

-- and never both to an end and into a ring
abbrev pub NoEndInARing : Type 0
NoEndInARing = (m : Resolutions) (v w : Val) (ps qs : List PromId) → Leads m v ps w → Circles m v qs → ⊥

-- through fewer promises than 2 ^ 64, a value settles to what it unfolds to within the limits of a value, and to nothing else
abbrev pub SettlesAsItUnfolds : Type 0
SettlesAsItUnfolds = (m : Resolutions) (v w : Val) (ps : List PromId) → length ps < 2 ^ 64 → ((settling m v).through ≡ ps) × ((settling m v).settled ≡ Some w) ↔ Unfolds m v ps w × (within_limits w ≡ true)

-- a value unfolds to at most one value
abbrev pub OneUnfolding : Type 0
OneUnfolding = (m : Resolutions) (v w x : Val) (ps qs : List PromId) → Unfolds m v ps w → Unfolds m v qs x → (ps ≡ qs) × (w ≡ x)

-- a settled form is within the limits of a value
abbrev pub SettledIsWithinLimits : Type 0
SettledIsWithinLimits = (m : Resolutions) (v w : Val) → (settling m v).settled ≡ Some w → within_limits w ≡ true

-- each promise in a value is unresolved, or has no end
abbrev mutual
  pub IsOpen : Resolutions → Val → Type 0
  IsOpen m (promise p) = (m p ≡ None) ⊎ ((walk most_walked m [] (promise p)).end ≡ None)
  IsOpen m (list vs) = AreOpen m vs
  IsOpen m _ = Unit {0}

  pub AreOpen : Resolutions → Vals → Type 0
  AreOpen m no_vals = Unit {0}
  AreOpen m (and_val v vs) = IsOpen m v × AreOpen m vs

-- such is a settled form
abbrev pub SettledIsOpen : Type 0
SettledIsOpen = (m : Resolutions) (v w : Val) → (settling m v).settled ≡ Some w → IsOpen m w

-- it settles to itself
abbrev pub SettledSettlesToItself : Type 0
SettledSettlesToItself = (m : Resolutions) (v w : Val) → (settling m v).settled ≡ Some w → (settling m w).settled ≡ Some w

-- a promise that was resolved to a list of itself has none
abbrev pub ListOfItselfHasNone : Type 0
ListOfItselfHasNone = (m : Resolutions) (p : PromId) → m p ≡ Some (list (and_val (promise p) no_vals)) → (settling m (promise p)).settled ≡ None
