use Rattle.std.proofs.Common.{◌∙◌, ◌<◌, length, sym, ap, arith}
use Rattle.ids.specs.declared.cells.CellKey.{CellKey}
use Rattle.ids.specs.declared.names.EventName.{EventName}
use Rattle.journal_links.specs.Heirs.{is_heir}
use Rattle.world_cells.specs.Records.{record_of}
use Rattle.world_cells.specs.declared.record.CellRecord.{CellRecord}
use Rattle.journal.specs.Items.{lasts_of}
use Rattle.journal.specs.Lines.{last_among}
use Rattle.journal.specs.Links.{lister}
use Rattle.journal.proofs.Linked.{inherits_more}
use Rattle.journal.proofs.linking.list_exactly.Goals as goal

pub loop-record-preserved : goal.loop-record-preserved
loop-record-preserved c =
    let xs = c.args.records.now in
    let i = c.loop-record.record-index in
    let lasts = lasts_of c.args.touched.now in
    let h : i < length xs = omega arith in
    let is = c.lister.ensures ∙ ap (lister c.in_ok-key.key) c.writer_among-writer.ensures
    ∙ ap (λ (k : CellKey). lister k (last_among lasts k)) (c.in_ok-key.ensures ∙ ap (λ (r : CellRecord). (record_of r).0) c.record-item.is) in
    record {
      listed = inherits_more (is_heir c.loop-record.heirs) (is_heir c.add.new.self) c.args.event lasts xs i c.record-item.result h c.add.ensures.kept c.loop-record.invariant.listed
          (ap (λ (w : EventName). is_heir c.add.new.self w c.args.event) (sym is) ∙ c.in_ok-add.ensures.ok);
      kept = λ e f was. c.add.ensures.kept e f (c.loop-record.invariant.kept e f was);
    }
