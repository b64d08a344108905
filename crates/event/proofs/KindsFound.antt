-- What was found in a state's cells is what was found in the cells of each kind.
use Rattle.std.proofs.Common.{◌≡◌, ◌↔◌, Bool, Option, Some, None, refl, sym, ap, ◌∙◌}
use Rattle.std.specs.Option.{option_map}
use Rattle.cells.specs.Touches.{touch}
use Rattle.cells.specs.Seen.{seen}
use Rattle.cells.specs.declared.store.CellStore.{CellStore}
use Rattle.cells.specs.declared.touches.Touch.{Touch}
use Rattle.cells.specs.declared.touches.Touches.{Touches}
use Rattle.values.specs.View.{val_of}
use Rattle.heap.specs.State.{Cell, top, slot_cell, object_cell, view_cell, fence_cell, Content, bound, held, made, viewed, fenced}
use Rattle.heap.specs.View.{bind_of, object_of, view_of, state_of, same_name, same_slot, same_object, same_promise, same_target}
use Rattle.heap.specs.Found.{Found, touch_in, touch_of}
use Rattle.heap.specs.declared.reach.Footprint.{Footprint}
use Rattle.heap.specs.declared.state.VatState.{VatState}
use Rattle.event.specs.Finds.{FoundIn, KindsFound}

-- what is told of a cell that was touched is told of what was found there
found_told : {V : Type 0} (f : V → Content) (o : Option (Touch V)) (t : Touch Content) (there : Option Content)
    → ((u : Touch V) → o ≡ Some u → option_map f u.found ≡ there) → touch_of f o ≡ Some t → t.found ≡ there
found_told f None t there h e = absurd (cc)
found_told f (Some u) t there h e =
    let same : ◌≡◌ {A = Touch Content} (record { found = option_map f u.found; written = option_map f u.written }) t = cc in
    ap (λ (x : Touch Content). x.found) (sym same) ∙ h u refl

module _ (r : Footprint) (s : VatState) where
  -- the cells of all kinds are all cells
  all_kinds : KindsFound r s → Found r (state_of s)
  all_kinds k (top x) t e = found_told (λ b. bound (bind_of b)) (touch same_name r.tops x) t (state_of s (top x)) (k.0 x) e
  all_kinds k (slot_cell i) t e = found_told (λ v. held (val_of v)) (touch same_slot r.slots i) t (state_of s (slot_cell i)) (k.1 i) e
  all_kinds k (object_cell i) t e = found_told (λ m. made (object_of m)) (touch same_object r.objects i) t (state_of s (object_cell i)) (k.2 i) e
  all_kinds k (view_cell p) t e = found_told (λ v. viewed (view_of v)) (touch same_promise r.views p) t (state_of s (view_cell p)) (k.3 p) e
  all_kinds k (fence_cell q) t e = found_told fenced (touch same_target r.fences q) t (state_of s (fence_cell q)) (k.4 q) e

  -- what was found in a cell of one kind, where what was found in all cells stands there
  of_kind : {K V : Type 0} (eq : K → K → Bool) (f : V → Content) (touches : Touches K V) (cells : CellStore K V) (cell : K → Cell)
      → ((k : K) → touch_in r (cell k) ≡ touch_of f (touch eq touches k)) → ((k : K) → state_of s (cell k) ≡ option_map f (seen eq cells k).0) → Found r (state_of s) → FoundIn eq f touches cells
  of_kind eq f touches cells cell touched stands all k t e =
      all (cell k) (record { found = option_map f t.found; written = option_map f t.written }) (touched k ∙ ap (touch_of f) e) ∙ stands k

  each_kind : Found r (state_of s) → KindsFound r s
  each_kind all = (
    of_kind same_name (λ b. bound (bind_of b)) r.tops s.tops top (λ x. refl) (λ x. refl) all,
    of_kind same_slot (λ v. held (val_of v)) r.slots s.slots slot_cell (λ i. refl) (λ i. refl) all,
    of_kind same_object (λ m. made (object_of m)) r.objects s.objects object_cell (λ i. refl) (λ i. refl) all,
    of_kind same_promise (λ v. viewed (view_of v)) r.views s.views view_cell (λ p. refl) (λ p. refl) all,
    of_kind same_target fenced r.fences s.fences fence_cell (λ q. refl) (λ q. refl) all,
  )

  -- what was found in the cells of each kind stands there just where it does in all cells
  pub kinds_are_all : KindsFound r s ↔ Found r (state_of s)
  kinds_are_all = (all_kinds, each_kind)
