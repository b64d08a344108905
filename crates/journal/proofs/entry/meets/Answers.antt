use Rattle.std.proofs.Common.{◌≡◌, ◌<◌, Bool, true, List, Option, ℕ, length, get_or, sym, ap, ◌∙◌, arith}
use Rattle.std.specs.List.{list_any}
use Rattle.ids.specs.CellKeys.{same_key}
use Rattle.ids.specs.declared.cells.CellKey.{CellKey}
use Rattle.world_cells.specs.Theory.{kept_of}
use Rattle.journal.specs.Items.{lasts_of}
use Rattle.journal.proofs.Among.{any_at}
use Rattle.journal.proofs.entry.meets.Goals as goal

is_among : CellKey → List (CellKey × Option ℕ) → Bool
is_among k lasts = list_any (λ q. same_key k q.0) lasts

pub returns-then-is_touched : goal.returns-then-is_touched
unfolding is_among
returns-then-is_touched c =
    let xs = c.args.first.now.records.items in
    let lasts = lasts_of c.args.second.now.touched.items in
    let i = c.loop-kept.kept-index in
    let x = c.kept-item.result in
    let h : i < length xs = omega (arith, ap length c.deref-kept-items.ensures.value, c.loop-kept-test.true) in
    let same : get_or xs i x ≡ x = ap (λ l. get_or l i x) (sym c.deref-kept-items.ensures.value) ∙ sym c.kept-item.is in
    let is : is_among (kept_of (get_or xs i x)).0 lasts ≡ true = ap (λ r. is_among (kept_of r).0 lasts) same ∙ ap (λ l. is_among (kept_of x).0 (lasts_of l)) (sym c.deref.ensures.value) ∙ sym c.is_touched.ensures ∙ c.if-is_touched.true in
    sym (any_at (λ r. list_any (λ q. same_key r.0 q.0) lasts) kept_of xs i x h is)
