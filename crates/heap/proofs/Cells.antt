-- On the cells of a vat.
use Rattle.std.proofs.Common.{◌≡◌, true, refl, ap}
use Rattle.std.proofs.lemmas.Slice.Eq.{bytes_eq-Decides}
use Rattle.ids.specs.Cells.{slot_cmp, object_cmp, promise_cmp}
use Rattle.ids.proofs.Keys.{equal, exact_slots, exact_objects, exact_promises, slot_self, object_self, promise_self}
use Rattle.ids.proofs.References.{reference_equal, reference_self}
use Rattle.heap.specs.State.{Cell, top, slot_cell, object_cell, view_cell, fence_cell, same_cell}

-- cells that are the same are one cell
pub cell_exact : (c d : Cell) → same_cell c d ≡ true → c ≡ d
cell_exact (top x) (top y) h = ap top ((bytes_eq-Decides x y).0 h)
cell_exact (slot_cell i) (slot_cell j) h = ap slot_cell (exact_slots i j (equal (slot_cmp i j) h))
cell_exact (object_cell i) (object_cell j) h = ap object_cell (exact_objects i j (equal (object_cmp i j) h))
cell_exact (view_cell p) (view_cell q) h = ap view_cell (exact_promises p q (equal (promise_cmp p q) h))
cell_exact (fence_cell r) (fence_cell t) h = ap fence_cell (reference_equal r t h)
cell_exact _ _ h = cc

-- and each is the same as itself
pub cell_self : (c : Cell) → same_cell c c ≡ true
cell_self (top x) = (bytes_eq-Decides x x).1 refl
cell_self (slot_cell i) = slot_self i
cell_self (object_cell i) = object_self i
cell_self (view_cell p) = promise_self p
cell_self (fence_cell r) = reference_self r
