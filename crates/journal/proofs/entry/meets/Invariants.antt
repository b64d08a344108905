use Rattle.std.proofs.Common.{◌≡◌, false, take}
use Rattle.std.specs.List.{list_any}
use Rattle.ids.specs.CellKeys.{same_key}
use Rattle.world_cells.specs.Theory.{kepts_of}
use Rattle.journal.specs.Items.{lasts_of}
use Rattle.journal.proofs.entry.meets.Given as goal

abbrev pub invariant-loop-kept : goal.invariant-loop-kept
invariant-loop-kept l = list_any (λ r. list_any (λ q. same_key r.0 q.0) (lasts_of l.second.touched.items)) (kepts_of (take l.kept-index l.first.records.items)) ≡ false
