use Rattle.std.proofs.Common.{◌≡◌, ◌<◌, ◌≤◌, true, length, get_or, take_all, sym, ap, ◌∙◌, arith}
use Rattle.std.specs.List.{list_any}
use Rattle.ids.specs.CellKeys.{same_key}
use Rattle.journal.specs.Items.{item_of, last_of, lasts_of}
use Rattle.journal.proofs.Among.{any_at}
use Rattle.journal.proofs.Settling.{settled_wrote}
use Rattle.journal.proofs.settled.Settled.meets.Goals as goal

pub returns-then-is_among : goal.returns-then-is_among
returns-then-is_among c =
    let xs = c.args.self.now.written.items in
    let lasts = lasts_of c.args.entry.now.touched.items in
    let i = c.loop-cell.cell-index in
    let x = c.cell-item.result in
    let h : i < length xs = omega (arith, ap length c.deref-cell-items.ensures.value, c.loop-cell-test.true) in
    let same : get_or xs i x ≡ x = ap (λ l. get_or l i x) (sym c.deref-cell-items.ensures.value) ∙ sym c.cell-item.is in
    let is : list_any (λ q. same_key (last_of (get_or xs i x)).0 q.0) lasts ≡ true =
    ap (λ t. list_any (λ q. same_key (last_of t).0 q.0) lasts) same ∙ ap (λ l. list_any (λ q. same_key x.key q.0) (lasts_of l)) (sym c.deref.ensures.value) ∙ sym c.is_among.ensures ∙ c.if-is_among.true in
    sym (any_at (λ r. list_any (λ q. same_key r.0 q.0) lasts) last_of xs i x h is) ∙ settled_wrote c.args.self.now (item_of c.args.entry.now)

pub returns : goal.returns
returns c =
    let xs = c.args.self.now.written.items in
    let lasts = lasts_of c.args.entry.now.touched.items in
    let done : length xs ≤ c.loop-cell.cell-index = omega (arith, ap length c.deref-cell-items.ensures.value, c.loop-cell-test.false) in
    sym c.loop-cell.invariant ∙ ap (λ l. list_any (λ r. list_any (λ q. same_key r.0 q.0) lasts) (lasts_of l)) (take_all c.loop-cell.cell-index xs done) ∙ settled_wrote c.args.self.now (item_of c.args.entry.now)
