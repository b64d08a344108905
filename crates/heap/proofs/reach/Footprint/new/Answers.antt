use Rattle.std.proofs.Common.{ap}
use Rattle.heap.specs.State.{top, slot_cell, object_cell, view_cell, fence_cell}
use Rattle.heap.specs.Found.{touch_of}
use Rattle.heap.proofs.reach.Footprint.new.Goals as goal

pub returns : goal.returns
returns c (top x) = ap (touch_of _) (c.new.ensures x)
returns c (slot_cell i) = ap (touch_of _) (c.new-2.ensures i)
returns c (object_cell i) = ap (touch_of _) (c.new-3.ensures i)
returns c (view_cell p) = ap (touch_of _) (c.new-4.ensures p)
returns c (fence_cell r) = ap (touch_of _) (c.new-5.ensures r)
