use Rattle.std.proofs.Common.{◌++◌}
use Rattle.std.proofs.lemmas.Result.{on_ok_weaker}
use Rattle.world_cells.specs.Theory.{kepts_of}
use Rattle.event.specs.Entries.{entries_in}
use Rattle.heap.specs.State.{top, slot_cell, object_cell, view_cell, fence_cell, bound, held, made, viewed, fenced}
use Rattle.heap.specs.View.{bind_of, object_of, view_of}
use Rattle.values.specs.View.{val_of}
use Rattle.event.proofs.Gathering.{kept_then}
use Rattle.event.proofs.left.record_cells.Goals as goal

pub returns : goal.returns
returns c =
    let r = c.args.footprint.now in
    let e = c.args.event in
    let v = c.args.vat in
    let tops = entries_in top (λ b. bound (bind_of b)) r.tops.touches in
    let slots = entries_in slot_cell (λ v. held (val_of v)) r.slots.touches in
    let objects = entries_in object_cell (λ m. made (object_of m)) r.objects.touches in
    let views = entries_in view_cell (λ k. viewed (view_of k)) r.views.touches in
    let fences = entries_in fence_cell fenced r.fences.touches in
    let start = kepts_of c.args.records.now.items in
    let one = kepts_of c.add_records.new.records.items in
    let two = kepts_of c.add_records-2.new.records.items in
    let three = kepts_of c.add_records-3.new.records.items in
    let four = kepts_of c.add_records-4.new.records.items in
    let end = kepts_of c.add_records-5.new.records.items in
    on_ok_weaker c.add_records-5.result
    (λ h. kept_then e v tops (slots ++ (objects ++ (views ++ fences))) start one end c.in_ok-add_records.ensures
    (kept_then e v slots (objects ++ (views ++ fences)) one two end c.in_ok-add_records-2.ensures
    (kept_then e v objects (views ++ fences) two three end c.in_ok-add_records-3.ensures
    (kept_then e v views fences three four end c.in_ok-add_records-4.ensures h))))
    c.add_records-5.ensures
