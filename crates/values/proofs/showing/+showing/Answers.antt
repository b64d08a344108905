use Rattle.std.proofs.Common.{◌≡◌, ◌+◌, ◌≤◌, ap, ◌++◌, string_bytes, rules, arith}
use Rattle.ids.proofs.Quoting.{after_last}
use Rattle.values.specs.View.{val_of, vals_of}
use Rattle.values.specs.Limits.{weight, weights}
use Rattle.values.proofs.Views.{list_is}
use Rattle.values.proofs.ShownItems.{shown_first, shown_step, shown_end, between_brackets}
use Rattle.values.proofs.Weighing.{item_weighs}
use Rattle.values.proofs.showing.+showing.Goals as goal

pub write_value-returns-in-List : goal.write_value-returns-in-List
write_value-returns-in-List t c = rw (list_is c.args.value.now c.in-List.items c.deref.result.now c.as_slice.result.now c.in-List.is c.deref.ensures c.as_slice.ensures) c.write_list.ensures

pub write_list-loop-item-init : goal.write_list-loop-item-init
write_list-loop-item-init t c = (ap (λ bs. string_bytes c.push_str.new.self ++ bs) (shown_first (vals_of c.args.items.now)), search rules)

pub write_list-loop-item-preserved : goal.write_list-loop-item-preserved
write_list-loop-item-preserved t c =
    (shown_step _ (string_bytes c.loop-item.out) (string_bytes c.push_str-in-loop-item.new.self) (string_bytes c.write_value.new.out) c.loop-item.separator.now c.args.items.now c.loop-item.item-index c.item-item.result c.loop-item-test.true c.item-item.is c.in_ok-push_str-2.ensures.bytes c.in_ok-write_value.ensures c.loop-item.invariant.0, search rules)

pub write_list-returns : goal.write_list-returns
write_list-returns t c =
    after_last c.push_str-2.result _ _ _ _ c.push_str-2.ensures.bytes
    (between_brackets (string_bytes c.args.out.now) (string_bytes c.push_str.new.self) (string_bytes c.loop-item.out) _ c.in_ok-push_str.ensures.bytes
    (shown_end _ (string_bytes c.loop-item.out) c.loop-item.separator.now c.args.items.now c.loop-item.item-index c.loop-item-test.false c.loop-item.invariant.0))

pub write_value-returns-in-Object : goal.write_value-returns-in-Object
write_value-returns-in-Object t c = search rules

pub write_value-returns-in-Promise : goal.write_value-returns-in-Promise
write_value-returns-in-Promise t c = search rules

pub write_value-write_list-requires : goal.write_value-write_list-requires
write_value-write_list-requires t c =
    let w : weight (val_of c.args.value.now) ≡ 1 + weights (vals_of c.as_slice.result.now) = ap weight (list_is c.args.value.now c.in-List.items c.deref.result.now c.as_slice.result.now c.in-List.is c.deref.ensures c.as_slice.ensures) in
    (omega arith, tt)

pub write_list-write_value-requires : goal.write_list-write_value-requires
write_list-write_value-requires t c =
    let w : weight (val_of c.item-item.result) ≤ weights (vals_of c.args.items.now) = item_weighs c.args.items.now c.loop-item.item-index c.item-item.result c.loop-item-test.true c.item-item.is in
    (omega arith, tt)
