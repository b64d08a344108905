-- What a vat's state under a turn stands for.
use Rattle.std.specs.Prelude.{◌≡◌, ℕ, Bool, Option, Some, None, is_some, List, length, cond, ◌==◌, ◌&&◌, ◌||◌}
use Rattle.std.specs.List.{slice_get}
use Rattle.ids.specs.declared.names.EventName.{EventName}
use Rattle.ids.specs.declared.names.VatNo.{VatNo}
use Rattle.values.specs.declared.value.Value.{Value}
use Rattle.values.specs.View.{val_of}
use Rattle.heap.specs.State.{slot_cell, object_cell, Content, held, made, State, Cells}
use Rattle.heap.specs.View.{object_of, state_of}
use Rattle.heap.specs.Drafted.{Drafted}
use Rattle.heap.specs.Found.{touched_in, writes_in, over_state}
use Rattle.heap.specs.declared.made.Made.{Made}

-- whether a cell is of the turn's own event and vat
abbrev pub is_of : EventName → VatNo → EventName → VatNo → Bool
is_of e v f w = (e.0 == f.0) && (v.0.0 == w.0.0)

-- the turn's own item of a number, if a cell is of the turn and there is one
abbrev pub own_item : {X : Type 0} → Bool → List X → ℕ → Option X
own_item q xs i = cond q (slice_get xs i) None

-- what a cell holds: the turn's own item where there is one, else what the state beneath says
abbrev pub over : {X : Type 0} → (X → Content) → Option X → Option Content → Option Content
over f (Some x) c = Some (f x)
over f None c = c

-- a state with the slots that a turn made over it, by their number
abbrev pub with_slots : EventName → VatNo → List Value → State → State
with_slots e v slots s (slot_cell i) = over (λ x. held (val_of x)) (own_item (is_of e v i.event i.vat) slots i.index) (s (slot_cell i))
with_slots e v slots s c = s c

-- the same of the objects that it made
abbrev pub with_objects : EventName → VatNo → List Made → State → State
with_objects e v objects s (object_cell i) = over (λ m. made (object_of m)) (own_item (is_of e v i.event i.vat) objects i.index) (s (object_cell i))
with_objects e v objects s c = s c

-- a set of cells, and the slots that a turn made
abbrev pub and_slots : EventName → VatNo → List Value → Cells → Cells
and_slots e v slots q (slot_cell i) = is_some (own_item (is_of e v i.event i.vat) slots i.index) || q (slot_cell i)
and_slots e v slots q c = q c

-- the same of the objects that it made
abbrev pub and_objects : EventName → VatNo → List Made → Cells → Cells
and_objects e v objects q (object_cell i) = is_some (own_item (is_of e v i.event i.vat) objects i.index) || q (object_cell i)
and_objects e v objects q c = q c

-- a vat's state under a turn
abbrev pub draft_of : Drafted → State
draft_of d = with_objects d.event d.vat d.objects (with_slots d.event d.vat d.slots (over_state d.footprint (state_of d.began)))

-- the state that the turn began with
abbrev pub began_with : Drafted → State
began_with d = state_of d.began

-- the cells that the turn has touched
abbrev pub touched_of : Drafted → Cells
touched_of d = and_objects d.event d.vat d.objects (and_slots d.event d.vat d.slots (touched_in d.footprint))

-- what the turn has written into each cell, and which it has written
abbrev pub writes_of : Drafted → State
writes_of d = with_objects d.event d.vat d.objects (with_slots d.event d.vat d.slots (writes_in d.footprint))

abbrev pub written_of : Drafted → Cells
written_of d c = is_some (writes_of d c)

-- what names a turn's next slot and its next object: its event, its vat, and how many of each it has made
pub record Counts : Type 0 where
  pub event : EventName
  pub vat : VatNo
  pub slots : ℕ
  pub objects : ℕ

abbrev pub counts_of : Drafted → Counts
counts_of d = record { event = d.event; vat = d.vat; slots = length d.slots; objects = length d.objects }

-- a turn that was refused a write has touched nothing more, and written nothing more
pub record IsUnwritten (old new : Drafted) : Type 0 where
  pub state : draft_of new ≡ draft_of old
  pub touched : touched_of new ≡ touched_of old
  pub written : written_of new ≡ written_of old
