use Rattle.std.proofs.Common.{◌≡◌, false, take}
use Rattle.std.specs.List.{list_any}
use Rattle.ids.specs.CellKeys.{same_key}
use Rattle.world_cells.specs.Records.{record_of}
use Rattle.journal.specs.Items.{lasts_of}
use Rattle.journal.proofs.entry.is_touched.Given as goal

abbrev pub invariant-loop-cell : goal.invariant-loop-cell
invariant-loop-cell l = list_any (λ q. same_key (record_of l.kept).0 q.0) (lasts_of (take l.cell-index l.touched)) ≡ false
