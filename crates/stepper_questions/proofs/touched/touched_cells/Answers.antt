use Rattle.std.proofs.Common.{refl, ap, ◌∙◌}
use Rattle.std.proofs.lemmas.Option.{slice_get_read}
use Rattle.world_cells.specs.Theory.{kepts_of}
use Rattle.stepper_questions.specs.Cells.{key_of}
use Rattle.stepper_questions.specs.TouchedView.{kept_has}
use Rattle.stepper_questions.proofs.Touching.{touched_none, touched_more, touched_all}
use Rattle.stepper_questions.proofs.touched.touched_cells.Goals as goal

pub loop-touched-init : goal.loop-touched-init
loop-touched-init c = record {
  seen = touched_none c.deref-touched-items.result.now (kepts_of c.args.entry.now.records.items) c.new-cells.result.entries c.new-cells.ensures.empty;
  ordered = c.new-cells.ensures.ordered;
}

pub loop-touched-preserved : goal.loop-touched-preserved
loop-touched-preserved c =
    let ts = c.deref-touched-items.result.now in
    let i = c.loop-touched.touched-index in
    let t = c.touched-item.result in
    record {
      seen = touched_more ts i t (kepts_of c.args.entry.now.records.items) c.in_ok-cell.cell _ c.loop-touched.cells.entries c.insert.new.self.entries
          (slice_get_read ts _ i t refl c.loop-touched-test.true c.touched-item.is) c.in_ok-cell.ensures refl
          (c.contains.ensures ∙ c.in_ok-written.ensures c.in_ok-cell.cell ∙ ap (λ rs. kept_has (kepts_of rs) (key_of c.in_ok-cell.cell)) c.deref.ensures.value) c.in_ok-insert.ensures.updates.0 c.loop-touched.invariant.seen;
      ordered = c.insert.ensures.ordered;
    }

pub returns-clause-seen : goal.returns-clause-seen
returns-clause-seen c = touched_all c.args.entry.now.touched.items c.deref-touched-items.result.now c.loop-touched.touched-index (kepts_of c.args.entry.now.records.items) c.loop-touched.cells.entries
    c.deref-touched-items.ensures.value c.loop-touched-test.false c.loop-touched.invariant.seen

pub returns-clause-ordered : goal.returns-clause-ordered
returns-clause-ordered c = c.loop-touched.invariant.ordered
