use Rattle.std.proofs.Common.{◌≡◌, ◌<◌, true, length, get_or, sym, ap, ◌∙◌, arith}
use Rattle.ids.specs.CellKeys.{same_key}
use Rattle.journal.specs.Items.{last_of}
use Rattle.journal.proofs.Among.{any_at}
use Rattle.journal.proofs.entry.is_among.Goals as goal

pub returns-then-is_same : goal.returns-then-is_same
returns-then-is_same c =
    let xs = c.args.touched.now in
    let i = c.loop-cell.cell-index in
    let x = c.cell-item.result in
    let h : i < length xs = omega arith in
    let is : same_key c.args.key.now (last_of (get_or xs i x)).0 ≡ true = ap (λ t. same_key c.args.key.now (last_of t).0) (sym c.cell-item.is) ∙ sym c.is_same.ensures ∙ c.if-is_same.true in
    sym (any_at (λ q. same_key c.args.key.now q.0) last_of xs i x h is)
