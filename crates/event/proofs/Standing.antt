-- The cells of a footprint: each kind has its own.
use Rattle.std.proofs.Common.{◌≡◌, Bool, true, false, cond, ◌||◌, List, [], ◌∷◌, ◌++◌, Option, Some, None, refl, sym, ap, ap₂, ◌∙◌}
use Rattle.std.specs.List.{list_any, AllByRecursion, IsDistinct}
use Rattle.std.specs.Map.{lookup, keys_of}
use Rattle.std.specs.Option.{option_map}
use Rattle.std.proofs.lemmas.List.{map-append}
use Rattle.std.proofs.lemmas.List.Folds.{list_any-append}
use Rattle.std.proofs.lemmas.Map.Keys.{IsDistinct-head, IsDistinct-tail}
use Rattle.std.specs.Str.{bytes_eq}
use Rattle.ids.proofs.CellKeys.{slots_agree, objects_agree, promises_agree, references_agree}
use Rattle.kernele.specs.Tree.{Name}
use Rattle.cells.specs.Touches.{touch, touched_list}
use Rattle.cells.specs.declared.touches.Touch.{Touch}
use Rattle.values.specs.View.{val_of}
use Rattle.heap.specs.State as heap
use Rattle.heap.specs.State.{Cell, top, slot_cell, object_cell, view_cell, fence_cell, bound, held, made, viewed, fenced, same_cell}
use Rattle.heap.specs.View.{bind_of, object_of, view_of, same_name, same_slot, same_object, same_promise, same_target}
use Rattle.heap.specs.Found.{touch_of, touch_in}
use Rattle.heap.specs.declared.reach.Footprint.{Footprint}
use Rattle.event.specs.Entries.{Entry, entries_in, entries_of, cells_in, EachOnce}
use Rattle.event.proofs.Listed.{Once}

-- ---- one list after another

-- what the first list does not have is looked up in the second
behind : (c : Cell) (xs ys : List Entry) → lookup (same_cell c) xs ≡ None → lookup (same_cell c) (xs ++ ys) ≡ lookup (same_cell c) ys
behind c [] ys h = refl
behind c (x ∷ xs) ys h = first (same_cell c x.0) h (behind c xs ys)
  where
    first : (b : Bool) → cond b (Some x.1) (lookup (same_cell c) xs) ≡ None → (lookup (same_cell c) xs ≡ None → lookup (same_cell c) (xs ++ ys) ≡ lookup (same_cell c) ys)
        → cond b (Some x.1) (lookup (same_cell c) (xs ++ ys)) ≡ lookup (same_cell c) ys
    first true g ih = absurd (cc)
    first false g ih = ih g

-- and what the second does not have, in the first
before : (c : Cell) (xs ys : List Entry) → lookup (same_cell c) ys ≡ None → lookup (same_cell c) (xs ++ ys) ≡ lookup (same_cell c) xs
before c [] ys h = h
before c (x ∷ xs) ys h = ap (λ o. cond (same_cell c x.0) (Some x.1) o) (before c xs ys h)

-- what neither has is in none
in_none : (c : Cell) (xs ys : List Entry) → lookup (same_cell c) xs ≡ None → lookup (same_cell c) ys ≡ None → lookup (same_cell c) (xs ++ ys) ≡ None
in_none c xs ys h g = behind c xs ys h ∙ g

-- what neither list has
any_both : (c : Cell) (xs ys : List Entry) → list_any (same_cell c) (cells_in xs) ≡ false → list_any (same_cell c) (cells_in ys) ≡ false → list_any (same_cell c) (cells_in (xs ++ ys)) ≡ false
any_both c xs ys h g = ap (list_any (same_cell c)) (map-append (λ (e : Entry). e.0) xs ys) ∙ list_any-append (same_cell c) (cells_in xs) (cells_in ys) ∙ ap₂ (λ a b. a || b) h g

-- two lists with no cell in common
once_both : (xs ys : List Entry) → Once xs → Once ys → AllByRecursion (λ e. list_any (same_cell e.0) (cells_in ys) ≡ false) xs → Once (xs ++ ys)
once_both [] ys h g a = g
once_both (x ∷ xs) ys h g a = (any_both x.0 xs ys h.0 a.0, once_both xs ys h.1 g a.1)

-- ---- the cells of one kind

module _ {K V : Type 0} (cell : K → Cell) (content : V → heap.Content) where
  -- a cell of another kind is none of these
  look_other : (c : Cell) → ((k : K) → same_cell c (cell k) ≡ false) → (es : List (K × Touch V)) → lookup (same_cell c) (entries_in cell content es) ≡ None
  look_other c h [] = refl
  look_other c h (e ∷ es) = ap (λ b. cond b (Some (option_map content e.1.written)) (lookup (same_cell c) (entries_in cell content es))) (h e.0) ∙ look_other c h es

  -- nor is it listed among them
  any_other : (c : Cell) → ((k : K) → same_cell c (cell k) ≡ false) → (es : List (K × Touch V)) → list_any (same_cell c) (cells_in (entries_in cell content es)) ≡ false
  any_other c h [] = refl
  any_other c h (e ∷ es) = ap₂ (λ a b. a || b) (h e.0) (any_other c h es)

  -- what holds of all cells of the kind
  all_entries : (P : Cell → Type 0) → ((k : K) → P (cell k)) → (es : List (K × Touch V)) → AllByRecursion (λ (e : Entry). P e.0) (entries_in cell content es)
  all_entries P h [] = tt
  all_entries P h (e ∷ es) = (h e.0, all_entries P h es)

  module _ (eq : K → K → Bool) (agrees : (a b : K) → same_cell (cell a) (cell b) ≡ eq a b) where
    -- what is looked up of a cell of the kind is what is looked up of its key
    look_own : (k : K) (es : List (K × Touch V)) → lookup (same_cell (cell k)) (entries_in cell content es) ≡ option_map (λ (t : Touch V). option_map content t.written) (lookup (eq k) es)
    look_own k [] = refl
    look_own k (e ∷ es) = ap (λ b. cond b (Some (option_map content e.1.written)) (lookup (same_cell (cell k)) (entries_in cell content es))) (agrees k e.0) ∙ first (eq k e.0) (look_own k es)
      where
        first : (b : Bool) → lookup (same_cell (cell k)) (entries_in cell content es) ≡ option_map (λ (t : Touch V). option_map content t.written) (lookup (eq k) es)
            → cond b (Some (option_map content e.1.written)) (lookup (same_cell (cell k)) (entries_in cell content es)) ≡ option_map (λ (t : Touch V). option_map content t.written) (cond b (Some e.1) (lookup (eq k) es))
        first true ih = refl
        first false ih = ih

    -- a key that is not there makes a cell that is not listed
    any_own : (k : K) (es : List (K × Touch V)) → AllByRecursion (λ y. eq k y ≡ false) (keys_of es) → list_any (same_cell (cell k)) (cells_in (entries_in cell content es)) ≡ false
    any_own k [] h = refl
    any_own k (e ∷ es) h = ap₂ (λ a b. a || b) (agrees k e.0 ∙ h.0) (any_own k es h.1)

    -- distinct keys make distinct cells
    once_own : (es : List (K × Touch V)) → IsDistinct eq (keys_of es) → Once (entries_in cell content es)
    once_own [] h = tt
    once_own (e ∷ es) h = (any_own e.0 es (IsDistinct-head eq e.0 (keys_of es) h), once_own es (IsDistinct-tail eq e.0 (keys_of es) h))

-- ---- all of a footprint

-- two tests that both tell whether two texts are equal agree
names_agree : (x y : Name) → bytes_eq x y ≡ same_name x y
names_agree x y = refl

-- what was written stands for what its content stands for
written_told : {V : Type 0} (f : V → heap.Content) (o : Option (Touch V)) → option_map (λ (t : Touch V). option_map f t.written) o ≡ option_map (λ (t : Touch heap.Content). t.written) (touch_of f o)
written_told f None = refl
written_told f (Some t) = refl

module _ (r : Footprint) where
  abbrev tops : List Entry
  tops = entries_in top (λ b. bound (bind_of b)) (touched_list r.tops)

  abbrev slots : List Entry
  slots = entries_in slot_cell (λ v. held (val_of v)) (touched_list r.slots)

  abbrev objects : List Entry
  objects = entries_in object_cell (λ m. made (object_of m)) (touched_list r.objects)

  abbrev views : List Entry
  views = entries_in view_cell (λ k. viewed (view_of k)) (touched_list r.views)

  abbrev fences : List Entry
  fences = entries_in fence_cell fenced (touched_list r.fences)

  -- those behind the top nouns, and so on
  abbrev from_views : List Entry
  from_views = views ++ fences

  abbrev from_objects : List Entry
  from_objects = objects ++ from_views

  abbrev from_slots : List Entry
  from_slots = slots ++ from_objects

  -- what is listed of a cell is what is known of it
  pub looked_up : (c : Cell) → lookup (same_cell c) (entries_of r) ≡ option_map (λ (t : Touch heap.Content). t.written) (touch_in r c)
  looked_up (top x) =
      before (top x) tops from_slots (in_none (top x) slots from_objects (look_other slot_cell _ (top x) (λ k. refl) (touched_list r.slots)) (in_none (top x) objects from_views (look_other object_cell _ (top x) (λ k. refl) (touched_list r.objects)) (in_none (top x) views fences (look_other view_cell _ (top x) (λ k. refl) (touched_list r.views)) (look_other fence_cell _ (top x) (λ k. refl) (touched_list r.fences)))))
      ∙ look_own top (λ b. bound (bind_of b)) same_name names_agree x (touched_list r.tops)
      ∙ written_told (λ b. bound (bind_of b)) (touch same_name r.tops x)
  looked_up (slot_cell i) =
      behind (slot_cell i) tops from_slots (look_other top _ (slot_cell i) (λ k. refl) (touched_list r.tops))
      ∙ before (slot_cell i) slots from_objects (in_none (slot_cell i) objects from_views (look_other object_cell _ (slot_cell i) (λ k. refl) (touched_list r.objects)) (in_none (slot_cell i) views fences (look_other view_cell _ (slot_cell i) (λ k. refl) (touched_list r.views)) (look_other fence_cell _ (slot_cell i) (λ k. refl) (touched_list r.fences))))
      ∙ look_own slot_cell (λ v. held (val_of v)) same_slot (λ a b. sym (slots_agree a b)) i (touched_list r.slots)
      ∙ written_told (λ v. held (val_of v)) (touch same_slot r.slots i)
  looked_up (object_cell i) =
      behind (object_cell i) tops from_slots (look_other top _ (object_cell i) (λ k. refl) (touched_list r.tops))
      ∙ behind (object_cell i) slots from_objects (look_other slot_cell _ (object_cell i) (λ k. refl) (touched_list r.slots))
      ∙ before (object_cell i) objects from_views (in_none (object_cell i) views fences (look_other view_cell _ (object_cell i) (λ k. refl) (touched_list r.views)) (look_other fence_cell _ (object_cell i) (λ k. refl) (touched_list r.fences)))
      ∙ look_own object_cell (λ m. made (object_of m)) same_object (λ a b. sym (objects_agree a b)) i (touched_list r.objects)
      ∙ written_told (λ m. made (object_of m)) (touch same_object r.objects i)
  looked_up (view_cell p) =
      behind (view_cell p) tops from_slots (look_other top _ (view_cell p) (λ k. refl) (touched_list r.tops))
      ∙ behind (view_cell p) slots from_objects (look_other slot_cell _ (view_cell p) (λ k. refl) (touched_list r.slots))
      ∙ behind (view_cell p) objects from_views (look_other object_cell _ (view_cell p) (λ k. refl) (touched_list r.objects))
      ∙ before (view_cell p) views fences (look_other fence_cell _ (view_cell p) (λ k. refl) (touched_list r.fences))
      ∙ look_own view_cell (λ k. viewed (view_of k)) same_promise (λ a b. sym (promises_agree a b)) p (touched_list r.views)
      ∙ written_told (λ k. viewed (view_of k)) (touch same_promise r.views p)
  looked_up (fence_cell q) =
      behind (fence_cell q) tops from_slots (look_other top _ (fence_cell q) (λ k. refl) (touched_list r.tops))
      ∙ behind (fence_cell q) slots from_objects (look_other slot_cell _ (fence_cell q) (λ k. refl) (touched_list r.slots))
      ∙ behind (fence_cell q) objects from_views (look_other object_cell _ (fence_cell q) (λ k. refl) (touched_list r.objects))
      ∙ behind (fence_cell q) views fences (look_other view_cell _ (fence_cell q) (λ k. refl) (touched_list r.views))
      ∙ look_own fence_cell fenced same_target (λ a b. sym (references_agree a b)) q (touched_list r.fences)
      ∙ written_told fenced (touch same_target r.fences q)

  -- no cell stands twice
  pub each_once : EachOnce r → Once (entries_of r)
  each_once h =
      once_both tops from_slots (once_own top _ same_name names_agree (touched_list r.tops) h.tops)
      (once_both slots from_objects (once_own slot_cell _ same_slot (λ a b. sym (slots_agree a b)) (touched_list r.slots) h.slots)
      (once_both objects from_views (once_own object_cell _ same_object (λ a b. sym (objects_agree a b)) (touched_list r.objects) h.objects)
      (once_both views fences (once_own view_cell _ same_promise (λ a b. sym (promises_agree a b)) (touched_list r.views) h.views)
      (once_own fence_cell _ same_target (λ a b. sym (references_agree a b)) (touched_list r.fences) h.fences)
      (all_entries view_cell _ (λ c. list_any (same_cell c) (cells_in fences) ≡ false) (λ k. (any_other fence_cell _ (view_cell k) (λ j. refl) (touched_list r.fences))) (touched_list r.views)))
      (all_entries object_cell _ (λ c. list_any (same_cell c) (cells_in from_views) ≡ false) (λ k. (any_both (object_cell k) views fences (any_other view_cell _ (object_cell k) (λ j. refl) (touched_list r.views)) (any_other fence_cell _ (object_cell k) (λ j. refl) (touched_list r.fences)))) (touched_list r.objects)))
      (all_entries slot_cell _ (λ c. list_any (same_cell c) (cells_in from_objects) ≡ false) (λ k. (any_both (slot_cell k) objects from_views (any_other object_cell _ (slot_cell k) (λ j. refl) (touched_list r.objects)) (any_both (slot_cell k) views fences (any_other view_cell _ (slot_cell k) (λ j. refl) (touched_list r.views)) (any_other fence_cell _ (slot_cell k) (λ j. refl) (touched_list r.fences))))) (touched_list r.slots)))
      (all_entries top _ (λ c. list_any (same_cell c) (cells_in from_slots) ≡ false) (λ k. (any_both (top k) slots from_objects (any_other slot_cell _ (top k) (λ j. refl) (touched_list r.slots)) (any_both (top k) objects from_views (any_other object_cell _ (top k) (λ j. refl) (touched_list r.objects)) (any_both (top k) views fences (any_other view_cell _ (top k) (λ j. refl) (touched_list r.views)) (any_other fence_cell _ (top k) (λ j. refl) (touched_list r.fences)))))) (touched_list r.tops))
