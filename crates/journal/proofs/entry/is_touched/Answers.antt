use Rattle.std.proofs.Common.{◌≡◌, ◌<◌, true, length, get_or, sym, ap, ◌∙◌, arith}
use Rattle.ids.specs.CellKeys.{same_key}
use Rattle.world_cells.specs.Records.{record_of}
use Rattle.journal.specs.Items.{last_of}
use Rattle.journal.proofs.Among.{any_at}
use Rattle.journal.proofs.entry.is_touched.Goals as goal

pub returns-then-is_of : goal.returns-then-is_of
returns-then-is_of c =
    let xs = c.args.touched.now in
    let i = c.loop-cell.cell-index in
    let x = c.cell-item.result in
    let h : i < length xs = omega arith in
    let is : same_key (record_of c.args.kept.now).0 (last_of (get_or xs i x)).0 ≡ true = ap (λ t. same_key (record_of c.args.kept.now).0 (last_of t).0) (sym c.cell-item.is) ∙ sym c.is_of.ensures ∙ c.if-is_of.true in
    sym (any_at (λ q. same_key (record_of c.args.kept.now).0 q.0) last_of xs i x h is)
