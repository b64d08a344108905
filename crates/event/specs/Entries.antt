-- The cells of a footprint in a list, and what an event leaves there.
use Rattle.std.specs.Prelude.{ℕ, Bool, cond, List, [], ◌∷◌, ◌++◌, map, Option, Some, None}
use Rattle.std.specs.List.{IsDistinct}
use Rattle.std.specs.Map.{keys_of}
use Rattle.std.specs.Option.{option_map}
use Rattle.history.specs.Records.{Record, record_of}
use Rattle.ids.specs.declared.names.EventName.{EventName}
use Rattle.ids.specs.declared.names.VatNo.{VatNo}
use Rattle.ids.specs.declared.cells.CellKey.{CellKey}
use Rattle.cells.specs.Touches.{touched_list}
use Rattle.cells.specs.declared.touches.Touch.{Touch}
use Rattle.values.specs.View.{val_of}
use Rattle.heap.specs.State as heap
use Rattle.heap.specs.State.{Cell, top, slot_cell, object_cell, view_cell, fence_cell, bound, held, made, viewed, fenced}
use Rattle.heap.specs.View.{bind_of, object_of, view_of, same_name, same_slot, same_object, same_promise, same_target}
use Rattle.heap.specs.declared.reach.Footprint.{Footprint}
use Rattle.world_cells.specs.World.{Content, content_of, cell_key}
use Rattle.world_cells.specs.Theory.{cells}
use Rattle.event.specs.Events.{in_world, is_lost}
use Rattle.turn_deliveries.specs.Outcomes.{told_of}
use Rattle.turn_deliveries.specs.declared.outcome.Outcome.{Outcome}

-- a cell that was touched, and what was written there, if it was written
abbrev pub Entry : Type 0
Entry = Cell × Option heap.Content

abbrev pub entry_in : {K V : Type 0} → (K → Cell) → (V → heap.Content) → K × Touch V → Entry
entry_in cell content e = (cell e.0, option_map content e.1.written)

-- the cells of one kind, of which this was touched
abbrev pub entries_in : {K V : Type 0} → (K → Cell) → (V → heap.Content) → List (K × Touch V) → List Entry
entries_in cell content es = map (entry_in cell content) es

-- all cells of a footprint
abbrev pub entries_of : Footprint → List Entry
entries_of r =
    entries_in top (λ b. bound (bind_of b)) (touched_list r.tops)
    ++ (entries_in slot_cell (λ v. held (val_of v)) (touched_list r.slots)
    ++ (entries_in object_cell (λ m. made (object_of m)) (touched_list r.objects)
    ++ (entries_in view_cell (λ k. viewed (view_of k)) (touched_list r.views)
    ++ entries_in fence_cell fenced (touched_list r.fences))))

-- no key of a footprint stands twice
pub record EachOnce (r : Footprint) : Type 0 where
  pub tops : IsDistinct same_name (keys_of (touched_list r.tops))
  pub slots : IsDistinct same_slot (keys_of (touched_list r.slots))
  pub objects : IsDistinct same_object (keys_of (touched_list r.objects))
  pub views : IsDistinct same_promise (keys_of (touched_list r.views))
  pub fences : IsDistinct same_target (keys_of (touched_list r.fences))

-- the cells alone, and their keys in the world
abbrev pub cells_in : List Entry → List Cell
cells_in es = map (λ e. e.0) es

abbrev pub keys_in : VatNo → List Entry → List CellKey
keys_in v es = map (λ e. cell_key v e.0) es

abbrev pub left_at : Cell → Option heap.Content → List (Cell × heap.Content)
left_at c None = []
left_at c (Some x) = (c, x) ∷ []

-- the cells that were written, with what was written there
abbrev pub left_in : List Entry → List (Cell × heap.Content)
left_in [] = []
left_in (e ∷ es) = left_at e.0 e.1 ++ left_in es

-- records of those writes in the world
abbrev pub kept_left : EventName → VatNo → List (Cell × heap.Content) → Record cells
kept_left e v left = record_of cells e.0 (in_world v left)

-- a record of one cell in which an event wrote this
abbrev pub kept_at : EventName → VatNo → Cell → heap.Content → CellKey × (Option Content × Option ℕ)
kept_at e v c x = (cell_key v c, (Some (content_of x), Some e.0))

-- what a turn leaves: an abandoned one leaves nothing
abbrev pub left_unless : Bool → Footprint → List (Cell × heap.Content)
left_unless abandoned r = cond abandoned [] (left_in (entries_of r))

abbrev pub left_of : Outcome → List (Cell × heap.Content)
left_of o = left_unless (is_lost (told_of o.ended)) o.footprint
