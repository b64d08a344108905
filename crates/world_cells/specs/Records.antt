-- What records of cells stand for.
use Rattle.std.specs.Prelude.{List, map}
use Rattle.cells.specs.Seen.{Seen}
use Rattle.ids.specs.declared.cells.CellKey.{CellKey}
use Rattle.ids.specs.declared.cells.CellKey.TheVariants as key
use Rattle.values.specs.View.{val_of}
use Rattle.heap.specs.State as heap
use Rattle.heap.specs.View.{bind_of, object_of, view_of, told}
use Rattle.world_cells.specs.World.{Content, vat, message, published, content_of}
use Rattle.post.specs.MessageView.{vat_of, message_of, published_of}
use Rattle.world_cells.specs.declared.record.CellRecord.{CellRecord}
use Rattle.world_cells.specs.declared.record.CellRecord.TheVariants as cell_record

-- a cell, and what is kept of it
abbrev pub record_of : CellRecord → CellKey × Seen Content
record_of (cell_record.Name r) = (key.Name r.key, told (λ v. vat (vat_of v)) (r.content, r.writer))
record_of (cell_record.Slot r) = (key.Slot r.key, told content_of (told (λ v. heap.held (val_of v)) (r.content, r.writer)))
record_of (cell_record.Object r) = (key.Object r.key, told content_of (told (λ m. heap.made (object_of m)) (r.content, r.writer)))
record_of (cell_record.Top v r) = (key.Top v r.key, told content_of (told (λ b. heap.bound (bind_of b)) (r.content, r.writer)))
record_of (cell_record.View v r) = (key.View v r.key, told content_of (told (λ k. heap.viewed (view_of k)) (r.content, r.writer)))
record_of (cell_record.Fence v r) = (key.Fence v r.key, told content_of (told heap.fenced (r.content, r.writer)))
record_of (cell_record.Msg r) = (key.Msg r.key, told (λ g. message (message_of g)) (r.content, r.writer))
record_of (cell_record.Board r) = (key.Board r.key, told (λ p. published (published_of p)) (r.content, r.writer))

abbrev pub records_of : List CellRecord → List (CellKey × Seen Content)
records_of records = map record_of records
