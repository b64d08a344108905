use Rattle.std.proofs.Common.{◌≡◌, None, ap}
use Rattle.heap.specs.State.{Cell, top, slot_cell, object_cell, view_cell, fence_cell}
use Rattle.heap.specs.View.{told, seen_in}
use Rattle.heap.proofs.state.VatState.new.Goals as goal

-- nothing is seen of any kind of cell
nothing_seen : (c : goal.After-new-5) (k : Cell) → seen_in (record { tops = c.new.result; slots = c.new-2.result; objects = c.new-3.result; views = c.new-4.result; fences = c.new-5.result }) k ≡ (None, None)
nothing_seen c (top x) = ap (told _) (c.new.ensures.nothing x)
nothing_seen c (slot_cell i) = ap (told _) (c.new-2.ensures.nothing i)
nothing_seen c (object_cell i) = ap (told _) (c.new-3.ensures.nothing i)
nothing_seen c (view_cell p) = ap (told _) (c.new-4.ensures.nothing p)
nothing_seen c (fence_cell r) = ap (told _) (c.new-5.ensures.nothing r)

pub returns-clause-seen : goal.returns-clause-seen
returns-clause-seen c = nothing_seen c

pub returns-clause-state : goal.returns-clause-state
returns-clause-state c = λ i k. (nothing_seen c k i).0
