use Rattle.std.proofs.Common.{sym, ◌∙◌}
use Rattle.journal.proofs.Touched.{writer_there}
use Rattle.journal.proofs.entry.writer_among.Goals as goal

pub returns-then-eq : goal.returns-then-eq
returns-then-eq c =
    writer_there c.args.touched.now c.loop-cell.cell-index c.cell-item.result c.args.key.now c.loop-cell-test.true c.cell-item.is (sym c.eq.ensures ∙ c.if-eq.true) c.loop-cell.invariant
