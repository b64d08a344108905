-- The cells of a state after those of one kind changed.
use Rattle.std.proofs.Common.{◌≡◌, Bool, List, true, false, cond, refl, ap, ◌∙◌}
use Rattle.cells.specs.Seen as cells
use Rattle.cells.specs.Seen.{Seen}
use Rattle.cells.specs.declared.store.CellStore.{CellStore}
use Rattle.ids.proofs.CellKeys.{slots_agree, objects_agree, promises_agree, references_agree}
use Rattle.ids.specs.declared.names.SlotId.{SlotId}
use Rattle.ids.specs.declared.names.ObjId.{ObjId}
use Rattle.ids.specs.declared.names.PromId.{PromId}
use Rattle.ids.specs.declared.names.MsgId.{MsgId}
use Rattle.ids.specs.declared.reference.Reference.{Reference}
use Rattle.values.specs.View.{val_of}
use Rattle.values.specs.declared.value.Value.{Value}
use Rattle.heap.specs.State.{Cell, top, slot_cell, object_cell, view_cell, fence_cell, held, made, viewed, fenced, same_cell}
use Rattle.heap.specs.View.{object_of, view_of, seen_in, told, same_slot, same_object, same_promise, same_target}
use Rattle.heap.specs.declared.made.Made.{Made}
use Rattle.heap.specs.declared.state.VatState.{VatState}
use Rattle.heap.specs.declared.state.View.{View}
use Rattle.world_cells.specs.Homes.{has_room_in}

-- what is told of one of two
pub told_one : {V C : Type 0} (f : V → C) (b : Bool) (x y : Seen V) → told f (cond b x y) ≡ cond b (told f x) (told f y)
told_one f true x y = refl
told_one f false x y = refl

module _ (s : VatState) (t : CellStore SlotId Value) where
  abbrev with_slots : VatState
  with_slots = record s { slots = t }

  pub slot_exchanged : (i : SlotId) (x : Seen Value) → ((q : SlotId) → cells.seen same_slot t q ≡ cond (same_slot i q) x (cells.seen same_slot s.slots q)) → (c : Cell)
      → seen_in with_slots c ≡ cond (same_cell (slot_cell i) c) (told (λ v. held (val_of v)) x) (seen_in s c)
  slot_exchanged i x h (top y) = refl
  slot_exchanged i x h (slot_cell q) =
      ap (told (λ v. held (val_of v))) (h q) ∙ told_one (λ v. held (val_of v)) (same_slot i q) x (cells.seen same_slot s.slots q)
      ∙ ap (λ b. cond b (told (λ v. held (val_of v)) x) (seen_in s (slot_cell q))) (slots_agree i q)
  slot_exchanged i x h (object_cell y) = refl
  slot_exchanged i x h (view_cell y) = refl
  slot_exchanged i x h (fence_cell y) = refl

  pub slots_seen : ((q : SlotId) → cells.seen same_slot t q ≡ cells.seen same_slot s.slots q) → (c : Cell) → seen_in with_slots c ≡ seen_in s c
  slots_seen h (top y) = refl
  slots_seen h (slot_cell q) = ap (told (λ v. held (val_of v))) (h q)
  slots_seen h (object_cell y) = refl
  slots_seen h (view_cell y) = refl
  slots_seen h (fence_cell y) = refl

  pub slots_room : ((q : SlotId) → cells.has_room same_slot t q ≡ cells.has_room same_slot s.slots q) → (c : Cell) → has_room_in with_slots c ≡ has_room_in s c
  slots_room h (top y) = refl
  slots_room h (slot_cell q) = h q
  slots_room h (object_cell y) = refl
  slots_room h (view_cell y) = refl
  slots_room h (fence_cell y) = refl

  pub slots_kept : ((q : SlotId) → cells.has_room same_slot s.slots q ≡ true → cells.has_room same_slot t q ≡ true) → (c : Cell) → has_room_in s c ≡ true → has_room_in with_slots c ≡ true
  slots_kept h (top y) g = g
  slots_kept h (slot_cell q) g = h q g
  slots_kept h (object_cell y) g = g
  slots_kept h (view_cell y) g = g
  slots_kept h (fence_cell y) g = g

module _ (s : VatState) (t : CellStore ObjId Made) where
  abbrev with_objects : VatState
  with_objects = record s { objects = t }

  pub object_exchanged : (i : ObjId) (x : Seen Made) → ((q : ObjId) → cells.seen same_object t q ≡ cond (same_object i q) x (cells.seen same_object s.objects q)) → (c : Cell)
      → seen_in with_objects c ≡ cond (same_cell (object_cell i) c) (told (λ m. made (object_of m)) x) (seen_in s c)
  object_exchanged i x h (top y) = refl
  object_exchanged i x h (slot_cell y) = refl
  object_exchanged i x h (object_cell q) =
      ap (told (λ m. made (object_of m))) (h q) ∙ told_one (λ m. made (object_of m)) (same_object i q) x (cells.seen same_object s.objects q)
      ∙ ap (λ b. cond b (told (λ m. made (object_of m)) x) (seen_in s (object_cell q))) (objects_agree i q)
  object_exchanged i x h (view_cell y) = refl
  object_exchanged i x h (fence_cell y) = refl

  pub objects_seen : ((q : ObjId) → cells.seen same_object t q ≡ cells.seen same_object s.objects q) → (c : Cell) → seen_in with_objects c ≡ seen_in s c
  objects_seen h (top y) = refl
  objects_seen h (slot_cell y) = refl
  objects_seen h (object_cell q) = ap (told (λ m. made (object_of m))) (h q)
  objects_seen h (view_cell y) = refl
  objects_seen h (fence_cell y) = refl

  pub objects_room : ((q : ObjId) → cells.has_room same_object t q ≡ cells.has_room same_object s.objects q) → (c : Cell) → has_room_in with_objects c ≡ has_room_in s c
  objects_room h (top y) = refl
  objects_room h (slot_cell y) = refl
  objects_room h (object_cell q) = h q
  objects_room h (view_cell y) = refl
  objects_room h (fence_cell y) = refl

  pub objects_kept : ((q : ObjId) → cells.has_room same_object s.objects q ≡ true → cells.has_room same_object t q ≡ true) → (c : Cell) → has_room_in s c ≡ true → has_room_in with_objects c ≡ true
  objects_kept h (top y) g = g
  objects_kept h (slot_cell y) g = g
  objects_kept h (object_cell q) g = h q g
  objects_kept h (view_cell y) g = g
  objects_kept h (fence_cell y) g = g

module _ (s : VatState) (t : CellStore PromId View) where
  abbrev with_views : VatState
  with_views = record s { views = t }

  pub view_exchanged : (i : PromId) (x : Seen View) → ((q : PromId) → cells.seen same_promise t q ≡ cond (same_promise i q) x (cells.seen same_promise s.views q)) → (c : Cell)
      → seen_in with_views c ≡ cond (same_cell (view_cell i) c) (told (λ k. viewed (view_of k)) x) (seen_in s c)
  view_exchanged i x h (top y) = refl
  view_exchanged i x h (slot_cell y) = refl
  view_exchanged i x h (object_cell y) = refl
  view_exchanged i x h (view_cell q) =
      ap (told (λ k. viewed (view_of k))) (h q) ∙ told_one (λ k. viewed (view_of k)) (same_promise i q) x (cells.seen same_promise s.views q)
      ∙ ap (λ b. cond b (told (λ k. viewed (view_of k)) x) (seen_in s (view_cell q))) (promises_agree i q)
  view_exchanged i x h (fence_cell y) = refl

  pub views_seen : ((q : PromId) → cells.seen same_promise t q ≡ cells.seen same_promise s.views q) → (c : Cell) → seen_in with_views c ≡ seen_in s c
  views_seen h (top y) = refl
  views_seen h (slot_cell y) = refl
  views_seen h (object_cell y) = refl
  views_seen h (view_cell q) = ap (told (λ k. viewed (view_of k))) (h q)
  views_seen h (fence_cell y) = refl

  pub views_room : ((q : PromId) → cells.has_room same_promise t q ≡ cells.has_room same_promise s.views q) → (c : Cell) → has_room_in with_views c ≡ has_room_in s c
  views_room h (top y) = refl
  views_room h (slot_cell y) = refl
  views_room h (object_cell y) = refl
  views_room h (view_cell q) = h q
  views_room h (fence_cell y) = refl

  pub views_kept : ((q : PromId) → cells.has_room same_promise s.views q ≡ true → cells.has_room same_promise t q ≡ true) → (c : Cell) → has_room_in s c ≡ true → has_room_in with_views c ≡ true
  views_kept h (top y) g = g
  views_kept h (slot_cell y) g = g
  views_kept h (object_cell y) g = g
  views_kept h (view_cell q) g = h q g
  views_kept h (fence_cell y) g = g

module _ (s : VatState) (t : CellStore Reference (List MsgId)) where
  abbrev with_fences : VatState
  with_fences = record s { fences = t }

  pub fence_exchanged : (i : Reference) (x : Seen (List MsgId)) → ((q : Reference) → cells.seen same_target t q ≡ cond (same_target i q) x (cells.seen same_target s.fences q)) → (c : Cell)
      → seen_in with_fences c ≡ cond (same_cell (fence_cell i) c) (told fenced x) (seen_in s c)
  fence_exchanged i x h (top y) = refl
  fence_exchanged i x h (slot_cell y) = refl
  fence_exchanged i x h (object_cell y) = refl
  fence_exchanged i x h (view_cell y) = refl
  fence_exchanged i x h (fence_cell q) =
      ap (told fenced) (h q) ∙ told_one fenced (same_target i q) x (cells.seen same_target s.fences q)
      ∙ ap (λ b. cond b (told fenced x) (seen_in s (fence_cell q))) (references_agree i q)

  pub fences_seen : ((q : Reference) → cells.seen same_target t q ≡ cells.seen same_target s.fences q) → (c : Cell) → seen_in with_fences c ≡ seen_in s c
  fences_seen h (top y) = refl
  fences_seen h (slot_cell y) = refl
  fences_seen h (object_cell y) = refl
  fences_seen h (view_cell y) = refl
  fences_seen h (fence_cell q) = ap (told fenced) (h q)

  pub fences_room : ((q : Reference) → cells.has_room same_target t q ≡ cells.has_room same_target s.fences q) → (c : Cell) → has_room_in with_fences c ≡ has_room_in s c
  fences_room h (top y) = refl
  fences_room h (slot_cell y) = refl
  fences_room h (object_cell y) = refl
  fences_room h (view_cell y) = refl
  fences_room h (fence_cell q) = h q

  pub fences_kept : ((q : Reference) → cells.has_room same_target s.fences q ≡ true → cells.has_room same_target t q ≡ true) → (c : Cell) → has_room_in s c ≡ true → has_room_in with_fences c ≡ true
  fences_kept h (top y) g = g
  fences_kept h (slot_cell y) g = g
  fences_kept h (object_cell y) g = g
  fences_kept h (view_cell y) g = g
  fences_kept h (fence_cell q) g = h q g
