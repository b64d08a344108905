use Rattle.std.proofs.Common.{◌≡◌, ◌++◌, length, drop}
use Rattle.eval_rules.specs.PublicationsView.{publications_of}
use Rattle.world_cells.specs.Theory.{kepts_of}
use Rattle.world_cells.specs.View.{world_of}
use Rattle.event.proofs.Adding.{board_kept}
use Rattle.event.proofs.making.record_publications.Given as goal

-- the publications from the place on are left
abbrev pub invariant-loop-place : goal.invariant-loop-place
invariant-loop-place l = record {
  count : l.place-end ≡ length (publications_of l.publications);
  kept : kepts_of l.initial.records.items ++ board_kept l.event (world_of l.world) (publications_of l.publications) ≡ kepts_of l.records.items ++ board_kept l.event (world_of l.world) (drop l.place (publications_of l.publications));
}
