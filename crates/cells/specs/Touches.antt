-- What was touched of cells.
use Rattle.std.specs.Prelude.{ℕ, Bool, List, Option, Some, None, length}
use Rattle.std.specs.List.{IsDistinct}
use Rattle.std.specs.Map.{keys_of, lookup}
use Rattle.cells.specs.declared.touches.Touch.{Touch}
use Rattle.cells.specs.declared.touches.Touches.{Touches}

-- what stands in a cell: what was written, or else what was found
abbrev pub standing : {V : Type 0} → Option V → Option V → Option V
standing found None = found
standing found (Some v) = Some v

-- what is known of the cell of a key, if it was touched
abbrev pub touch : {K V : Type 0} → (K → K → Bool) → Touches K V → K → Option (Touch V)
touch eq s k = lookup (eq k) s.touches

-- the cells that were touched, with what is known of each, in order of their first touches
abbrev pub touched_list : {K V : Type 0} → Touches K V → List (K × Touch V)
touched_list s = s.touches

-- how many cells were touched
abbrev pub touched_count : {K V : Type 0} → Touches K V → ℕ
touched_count s = length s.touches

-- each cell is listed once
abbrev pub IsListedOnce : {K V : Type 0} → (K → K → Bool) → Touches K V → Type 0
IsListedOnce eq s = IsDistinct eq (keys_of s.touches)
