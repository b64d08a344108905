-- What is seen of the states of vats.
use Rattle.std.specs.Prelude.{Bool, false, Option, None}
use Rattle.cells.specs.Seen.{Seen}
use Rattle.ids.specs.declared.names.VatNo.{VatNo}
use Rattle.ids.specs.declared.cells.CellKey.{CellKey}
use Rattle.ids.specs.declared.cells.CellKey.TheVariants as key
use Rattle.heap.specs.State.{top, slot_cell, object_cell, view_cell, fence_cell}
use Rattle.heap.specs.View.{told}
use Rattle.world_cells.specs.World.{Content, content_of}
use Rattle.world_cells.specs.Homes.{home_at, seen_at, is_ready_at}
use Rattle.world_cells.specs.declared.home.Home.{Home}
use Rattle.world_cells.specs.declared.homes.Homes.{Homes}

module _ (homes : VatNo → Option Home) where
  -- what is seen of the cells of vats
  abbrev pub seen_by : CellKey → Seen Content
  seen_by (key.Top v x) = told content_of (seen_at (homes v) (top x))
  seen_by (key.Slot s) = told content_of (seen_at (homes s.vat) (slot_cell s))
  seen_by (key.Object i) = told content_of (seen_at (homes i.vat) (object_cell i))
  seen_by (key.View v p) = told content_of (seen_at (homes v) (view_cell p))
  seen_by (key.Fence v r) = told content_of (seen_at (homes v) (fence_cell r))
  seen_by _ = (None, None)

  -- which of them can be exchanged
  abbrev pub ready_by : CellKey → Bool
  ready_by (key.Top v x) = is_ready_at (homes v) (top x)
  ready_by (key.Slot s) = is_ready_at (homes s.vat) (slot_cell s)
  ready_by (key.Object i) = is_ready_at (homes i.vat) (object_cell i)
  ready_by (key.View v p) = is_ready_at (homes v) (view_cell p)
  ready_by (key.Fence v r) = is_ready_at (homes v) (fence_cell r)
  ready_by _ = false

abbrev pub homes_of : Homes → VatNo → Option Home
homes_of h = home_at h.homes

abbrev pub seen_of_homes : Homes → CellKey → Seen Content
seen_of_homes h = seen_by (homes_of h)

abbrev pub ready_of_homes : Homes → CellKey → Bool
ready_of_homes h = ready_by (homes_of h)
