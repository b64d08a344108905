use Rattle.std.proofs.Common.{◌≡◌, ◌≤◌, length}
use Rattle.heap.specs.Found.{touched_in, writes_in}
use Rattle.heap.specs.Drafts.{with_objects, and_objects}
use Rattle.heap.proofs.draft.Draft.keep_objects.Given as goal

-- with those that are left the cells are what they are with all
abbrev pub invariant-loop-object : goal.invariant-loop-object
invariant-loop-object l = record {
  touched : and_objects l.event l.vat l.objects.items (touched_in l.base.footprint) ≡ and_objects l.event l.vat l.fn.objects.items (touched_in l.fn.base.footprint);
  written : with_objects l.event l.vat l.objects.items (writes_in l.base.footprint) ≡ with_objects l.event l.vat l.fn.objects.items (writes_in l.fn.base.footprint);
  beneath : l.base.state ≡ l.fn.base.state;
  numbered : length l.objects.items ≤ 4294967295;
}

abbrev pub decreases-loop-object : goal.decreases-loop-object
decreases-loop-object l = length l.objects.items
