use Rattle.std.proofs.Common.{◌≡◌, true, ◌++◌, take, drop}
use Rattle.history.specs.Records.{swap_state, swap_record}
use Rattle.world_cells.specs.View.{is_ready, swaps_of, RisesBy}
use Rattle.world_cells.specs.Theory.{cells, state_of_world, kepts_of, all_pass}
use Rattle.undo.proofs.records.swap_records.Given as goal

abbrev pub invariant-loop-record : goal.invariant-loop-record
invariant-loop-record l = record {
  ready : is_ready l.world ≡ is_ready l.fn.world;
  fits : all_pass (is_ready l.world) (kepts_of (drop l.record-index l.records)) ≡ true;
  rest : swap_state cells (kepts_of (drop l.record-index l.records)) (state_of_world l.world) ≡ swap_state cells (kepts_of l.fn.records) (state_of_world l.fn.world);
  done : kepts_of (take l.record-index l.records) ++ swap_record cells (kepts_of (drop l.record-index l.records)) (state_of_world l.world) ≡ swap_record cells (kepts_of l.fn.records) (state_of_world l.fn.world);
  counted : RisesBy l.record-index (swaps_of l.fn.world) (swaps_of l.world);
}
