use Rattle.std.proofs.Common.{◌≡◌, ◌+◌, ◌*◌, ◌<◌, ◌≤◌, ◌++◌, ◌∙◌, codes, append_assoc, sym, ap, drop, rules, arith}
use Rattle.std.proofs.lemmas.List.{drop_all}
use Rattle.values.specs.View.{val_of, vals_of}
use Rattle.values.specs.Limits.{weight, weights}
use Rattle.values.specs.Shown.{shown}
use Rattle.values.proofs.Views.{list_is}
use Rattle.values.proofs.Tables.{vals_from}
use Rattle.values.proofs.ShownItems.{shown_after, shown_first, shown_next}
use Rattle.values.proofs.Weighing.{item_weighs}
use Rattle.stepper_streams.proofs.Giving.{tells_both, leads_first, leads_more, leads_all}
use Rattle.stepper_printing.proofs.value.+printing.Goals as goal

pub put_value-returns-in-List : goal.put_value-returns-in-List
put_value-returns-in-List g t c = rw (list_is c.args.value.now c.in-List.items c.deref.result.now c.as_slice.result.now c.in-List.is c.deref.ensures c.as_slice.ensures) c.put_list.ensures

pub put_list-loop-item-init : goal.put_list-loop-item-init
put_list-loop-item-init g t c = (leads_first g.W.Write.contents c.put.new.self (shown_first (vals_of c.args.items.now)), search rules)

pub put_list-loop-item-preserved : goal.put_list-loop-item-preserved
put_list-loop-item-preserved g t c =
    let xs = c.args.items.now in
    let i = c.loop-item.item-index in
    let x = c.item-item.result in
    let rest = vals_of (drop (i + 1) xs) in
    let separator = c.loop-item.separator.now in (
      leads_more g.W.Write.contents (separator ++ shown (val_of x)) (shown_after (codes ", ") rest) c.loop-item.invariant.0 (tells_both g.W.Write.contents c.put-in-loop-item.ensures c.put_value.ensures)
          (ap (shown_after separator) (vals_from xs i x c.loop-item-test.true c.item-item.is) ∙ ap (λ m. separator ++ (shown (val_of x) ++ m)) (sym (shown_next rest)) ∙ sym (append_assoc separator (shown (val_of x)) (shown_after (codes ", ") rest))),
      search rules,
    )

pub put_list-returns : goal.put_list-returns
put_list-returns g t c =
    let all = leads_all g.W.Write.contents c.loop-item.invariant.0 (ap (λ ys. shown_after c.loop-item.separator.now (vals_of ys)) (drop_all c.loop-item.item-index c.args.items.now c.loop-item-test.false)) in
    tells_both g.W.Write.contents c.put.ensures (tells_both g.W.Write.contents all c.put-2.ensures)

pub put_value-put_list-requires : goal.put_value-put_list-requires
put_value-put_list-requires g t c =
    let w : weight (val_of c.args.value.now) ≡ 1 + weights (vals_of c.as_slice.result.now) = ap weight (list_is c.args.value.now c.in-List.items c.deref.result.now c.as_slice.result.now c.in-List.is c.deref.ensures c.as_slice.ensures) in
    let smaller : 2 * weights (vals_of c.as_slice.result.now) + 1 < 2 * weight (val_of c.args.value.now) = omega arith in
    search rules

pub put_list-put_value-requires : goal.put_list-put_value-requires
put_list-put_value-requires g t c =
    let w : weight (val_of c.item-item.result) ≤ weights (vals_of c.args.items.now) = item_weighs c.args.items.now c.loop-item.item-index c.item-item.result c.loop-item-test.true c.item-item.is in
    let smaller : 2 * weight (val_of c.item-item.result) < 2 * weights (vals_of c.args.items.now) + 1 = omega arith in
    search rules
