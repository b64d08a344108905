use Rattle.std.proofs.Common.{◌≡◌, ◌++◌, take}
use Rattle.cells.specs.Touches.{touched_list, touched_count}
use Rattle.world_cells.specs.Theory.{kepts_of}
use Rattle.event.specs.Entries.{entries_in, left_in, kept_left}
use Rattle.event.proofs.left.add_records.Given as goal

-- the records of the cells up to the place are added
abbrev pub invariant-loop-place : goal.invariant-loop-place
invariant-loop-place g l = record {
  count : l.place-end ≡ touched_count l.touches;
  kept : kepts_of l.records.items ≡ kepts_of l.initial.records.items ++ kept_left l.event l.vat (left_in (entries_in g.K.VatKey.cell g.K.VatKey.content (take l.place (touched_list l.touches))));
}
