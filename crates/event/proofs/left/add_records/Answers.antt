use Rattle.world_cells.specs.Theory.{kepts_of}
use Rattle.event.proofs.Gathering.{kept_next}
use Rattle.event.proofs.left.add_records.Goals as goal

pub loop-place-preserved : goal.loop-place-preserved
loop-place-preserved g c = record {
  count = c.loop-place.invariant.count;
  kept =
      kept_next g.K.VatKey.cell g.K.VatKey.content c.args.event c.args.vat c.args.touches.now.touches c.loop-place.place _ (kepts_of c.args.records.now.items) (kepts_of c.loop-place.records.items) (kepts_of c.add_record.new.records.items) c.at.ensures c.loop-place.invariant.kept c.in_ok-add_record.ensures;
}
