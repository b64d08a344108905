use Rattle.std.proofs.Common.{◌≡◌, true, take}
use Rattle.ids.specs.declared.cells.CellKey.{CellKey}
use Rattle.world_cells.specs.View.{seen_of_world, is_ready, swaps_of}
use Rattle.world_cells.specs.Theory.{kepts_of, all_pass}
use Rattle.undo.proofs.records.make_rooms.Given as goal

abbrev pub invariant-loop-record : goal.invariant-loop-record
invariant-loop-record l = record {
  seen : seen_of_world l.world ≡ seen_of_world l.fn.world;
  ready : (k : CellKey) → is_ready l.fn.world k ≡ true → is_ready l.world k ≡ true;
  counted : swaps_of l.world ≡ swaps_of l.fn.world;
  made : all_pass (is_ready l.world) (kepts_of (take l.record-index l.records)) ≡ true;
}
