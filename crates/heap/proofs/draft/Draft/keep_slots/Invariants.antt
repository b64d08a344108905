use Rattle.std.proofs.Common.{◌≡◌, ◌≤◌, length}
use Rattle.heap.specs.Found.{touched_in, writes_in}
use Rattle.heap.specs.Drafts.{with_slots, and_slots}
use Rattle.heap.proofs.draft.Draft.keep_slots.Given as goal

-- with those that are left the cells are what they are with all
abbrev pub invariant-loop-value : goal.invariant-loop-value
invariant-loop-value l = record {
  touched : and_slots l.event l.vat l.slots.items (touched_in l.base.footprint) ≡ and_slots l.event l.vat l.fn.slots.items (touched_in l.fn.base.footprint);
  written : with_slots l.event l.vat l.slots.items (writes_in l.base.footprint) ≡ with_slots l.event l.vat l.fn.slots.items (writes_in l.fn.base.footprint);
  beneath : l.base.state ≡ l.fn.base.state;
  numbered : length l.slots.items ≤ 4294967295;
}

abbrev pub decreases-loop-value : goal.decreases-loop-value
decreases-loop-value l = length l.slots.items
