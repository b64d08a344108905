-- When what is seen of a cell is like what is seen of another.
use Rattle.std.specs.Prelude.{◌≡◌, Bool, List, Option, Some, None}
use Rattle.std.specs.Map.{lookup}
use Rattle.std.specs.declared.cmp.Ordering.{Ordering}
use Rattle.std.specs.BTreeMap.{BTreeMap, get}
use Rattle.ids.specs.declared.names.EventName.{EventName}
use Rattle.cells.specs.Seen.{seen_of}
use Rattle.cells.specs.declared.store.Cell.{Cell}

-- both have contents, of which one is a clone of the other, or neither has
abbrev pub ContentClones : {V : Type 0} → (V → V → Type 0) → Option V → Option V → Type 0
ContentClones C None None = Unit {0}
ContentClones C None (Some y) = ⊥
ContentClones C (Some x) None = ⊥
ContentClones C (Some x) (Some y) = C x y

-- and they have one last writer
abbrev pub AreClones : {V : Type 0} → (V → V → Type 0) → Option V × Option EventName → Option V × Option EventName → Type 0
AreClones C x y = ContentClones C x.0 y.0 × (y.1 ≡ x.1)

-- a map has clones of what stands in these cells
abbrev pub Lists : {K V : Type 0} → (K → K → Bool) → (K → K → Ordering) → (V → V → Type 0) → List (K × Cell V) → BTreeMap K V → Type 0
Lists {K = K} eq cmp C es m = (q : K) → ContentClones C (seen_of (lookup (eq q) es)).0 (get cmp m q)
