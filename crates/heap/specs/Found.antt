-- What is known of the cells that a turn touched.
use Rattle.std.specs.Prelude.{◌≡◌, Option, Some, None, is_some}
use Rattle.std.specs.Option.{option_map}
use Rattle.cells.specs.Touches.{standing, touch}
use Rattle.cells.specs.declared.touches.Touch.{Touch}
use Rattle.values.specs.View.{val_of}
use Rattle.heap.specs.State.{Cell, top, slot_cell, object_cell, view_cell, fence_cell, Content, bound, held, made, viewed, fenced, State, Cells}
use Rattle.heap.specs.Sets.{found_contents}
use Rattle.heap.specs.View.{bind_of, object_of, view_of, same_name, same_slot, same_object, same_promise, same_target}
use Rattle.heap.specs.declared.reach.Footprint.{Footprint}

-- what is known of a cell, where its contents stand for these
abbrev pub touch_of : {V C : Type 0} → (V → C) → Option (Touch V) → Option (Touch C)
touch_of f None = None
touch_of f (Some t) = Some (record { found = option_map f t.found; written = option_map f t.written })

-- of each cell of the vat what is known of it, if it was touched
abbrev pub touch_in : Footprint → Cell → Option (Touch Content)
touch_in r (top x) = touch_of (λ b. bound (bind_of b)) (touch same_name r.tops x)
touch_in r (slot_cell i) = touch_of (λ v. held (val_of v)) (touch same_slot r.slots i)
touch_in r (object_cell i) = touch_of (λ m. made (object_of m)) (touch same_object r.objects i)
touch_in r (view_cell p) = touch_of (λ k. viewed (view_of k)) (touch same_promise r.views p)
touch_in r (fence_cell t) = touch_of fenced (touch same_target r.fences t)

-- a cell was touched
abbrev pub touched_in : Footprint → Cells
touched_in r c = is_some (touch_in r c)

-- what was written of what is known of a cell
abbrev pub written_part : Option (Touch Content) → Option Content
written_part None = None
written_part (Some t) = t.written

-- what was written into each cell, if it was written
abbrev pub writes_in : Footprint → State
writes_in r c = written_part (touch_in r c)

-- what stands in a cell: what is known of it, or else what the state beneath has
abbrev pub standing_over : Option (Touch Content) → Option Content → Option Content
standing_over None beneath = beneath
standing_over (Some t) beneath = standing t.found t.written

-- a state with what a turn has made of it
abbrev pub over_state : Footprint → State → State
over_state r s c = standing_over (touch_in r c) (s c)

-- a state with what was written in it
abbrev pub left_by : Footprint → State → State
left_by r s c = standing (s c) (writes_in r c)

-- what was found is what the state has
abbrev pub Found : Footprint → State → Type 0
Found r s = (c : Cell) (t : Touch Content) → touch_in r c ≡ Some t → t.found ≡ s c

-- which is a fact, and no choice
pub found-prop : (r : Footprint) (s : State) → IsProp (Found r s)
found-prop r s a b = λ i c t e. found_contents t.found (s c) (a c t e) (b c t e) i
