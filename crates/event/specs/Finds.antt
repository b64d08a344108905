-- What was found in cells of one kind, and what stands in them.
use Rattle.std.specs.Prelude.{◌≡◌, Bool, Some}
use Rattle.std.specs.Option.{option_map}
use Rattle.cells.specs.Seen.{seen}
use Rattle.cells.specs.Touches.{touch}
use Rattle.cells.specs.declared.store.CellStore.{CellStore}
use Rattle.cells.specs.declared.touches.Touch.{Touch}
use Rattle.cells.specs.declared.touches.Touches.{Touches}
use Rattle.values.specs.View.{val_of}
use Rattle.heap.specs.State.{bound, held, made, viewed, fenced}
use Rattle.heap.specs.View.{bind_of, object_of, view_of, same_name, same_slot, same_object, same_promise, same_target}
use Rattle.heap.specs.declared.reach.Footprint.{Footprint}
use Rattle.heap.specs.declared.state.VatState.{VatState}

-- in each cell that was touched stands what was found there: both stand for the same
abbrev pub FoundIn : {K V C : Type 0} → (K → K → Bool) → (V → C) → Touches K V → CellStore K V → Type 0
FoundIn {K = K} {V = V} eq content touches store = (k : K) (t : Touch V) → touch eq touches k ≡ Some t → option_map content t.found ≡ option_map content (seen eq store k).0

-- and so in the cells of all kinds
abbrev pub KindsFound : Footprint → VatState → Type 0
KindsFound r s =
    FoundIn same_name (λ b. bound (bind_of b)) r.tops s.tops
    × FoundIn same_slot (λ v. held (val_of v)) r.slots s.slots
    × FoundIn same_object (λ m. made (object_of m)) r.objects s.objects
    × FoundIn same_promise (λ k. viewed (view_of k)) r.views s.views
    × FoundIn same_target fenced r.fences s.fences
