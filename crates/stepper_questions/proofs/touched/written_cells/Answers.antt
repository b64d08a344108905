use Rattle.std.proofs.Common.{◌∙◌}
use Rattle.std.proofs.lemmas.Option.{slice_get_read}
use Rattle.std.proofs.Common.{refl}
use Rattle.stepper_questions.proofs.Touching.{record_more, records_all}
use Rattle.stepper_questions.proofs.touched.written_cells.Goals as goal

pub loop-record-preserved : goal.loop-record-preserved
loop-record-preserved c =
    let rs = c.args.records.now in
    let i = c.loop-record.record-index in
    let r = c.record-item.result in
    record_more rs i r c.in_ok-of.field-0 c.loop-record.cells.keys c.insert.new.self.keys (slice_get_read rs _ i r refl c.loop-record-test.true c.record-item.is)
    (c.in_ok-of.ensures ∙ c.in_ok-key.ensures) c.in_ok-insert.ensures.updates.0 c.loop-record.invariant

pub returns : goal.returns
returns c = records_all c.args.records.now c.loop-record.record-index c.loop-record.cells.keys c.loop-record-test.false c.loop-record.invariant
