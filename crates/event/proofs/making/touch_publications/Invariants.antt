use Rattle.std.proofs.Common.{◌≡◌, ◌++◌, length, map, take}
use Rattle.ids.specs.declared.cells.CellKey.TheVariants as key
use Rattle.eval_rules.specs.PublicationsView.{publications_of}
use Rattle.event.proofs.making.touch_publications.Given as goal

abbrev pub invariant-loop-place : goal.invariant-loop-place
invariant-loop-place l = record {
  count : l.place-end ≡ length (publications_of l.publications);
  keys : l.touched.items ≡ l.initial.touched.items ++ map (λ b. key.Board b.0) (take l.place (publications_of l.publications));
}
