use Rattle.std.proofs.Common.{◌≡◌, map, take}
use Rattle.world_cells.specs.Theory.{kepts_of}
use Rattle.journal.specs.Items.{item_of, lasts_of}
use Rattle.journal.specs.Lines.{writer_of}
use Rattle.journal.proofs.settled.written_by.Given as goal

abbrev pub invariant-loop-record : goal.invariant-loop-record
invariant-loop-record l = lasts_of l.all.items ≡ map (λ r. (r.0, writer_of (item_of l.entry) r.0)) (kepts_of (take l.record-index l.entry.records.items))
