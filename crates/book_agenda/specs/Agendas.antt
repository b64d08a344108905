-- What an agenda has of its world.
use Rattle.std.specs.Prelude.{◌≡◌, ℕ, Bool, true, false, ◌&&◌, is_some, List, Option, Some, None}
use Rattle.std.specs.List.{list_any}
use Rattle.std.specs.Ordering.{is_gt}
use Rattle.ids.specs.Cells.{promise_cmp}
use Rattle.ids.specs.CellKeys.{same_key}
use Rattle.ids.specs.declared.names.EventName.{EventName}
use Rattle.ids.specs.declared.names.VatNo.{VatNo}
use Rattle.ids.specs.declared.names.PromId.{PromId}
use Rattle.ids.specs.declared.cells.CellKey.{CellKey}
use Rattle.heap.specs.State as heap
use Rattle.heap.specs.State.{pending, view_cell}
use Rattle.world_cells.specs.World.{World, published_as, vat_state}

-- a promise has come into a vat, and nothing was learnt of it
abbrev pub is_open : Option heap.Content → Bool
is_open (Some (heap.viewed pending)) = true
is_open _ = false

-- a promise is open in a vat's view
abbrev pub open_view : World → PromId → VatNo → Bool
open_view w p v = is_open (vat_state w v (view_cell p))

-- a promise is open in a vat's view, and was published
abbrev pub can_learn : World → VatNo → PromId → Bool
can_learn w v p = open_view w p v && is_some (published_as w p)

-- two worlds are the same in all cells but these
abbrev pub AlikeBut : List CellKey → World → World → Type 0
AlikeBut keys v w = (k : CellKey) → list_any (same_key k) keys ≡ false → v k ≡ w k

-- of the promises that are known to a vat the first of an event and a number, if there is one
abbrev pub KnownAs : (VatNo → PromId → Bool) → VatNo → EventName → ℕ → Option PromId → Type 0
KnownAs known v e i None = (q : PromId) → q.event ≡ e → q.index ≡ i → known v q ≡ false
KnownAs known v e i (Some p) = (p.event ≡ e) × (p.index ≡ i) × (known v p ≡ true) × ((q : PromId) → q.event ≡ e → q.index ≡ i → known v q ≡ true → is_gt (promise_cmp p q) ≡ false)
