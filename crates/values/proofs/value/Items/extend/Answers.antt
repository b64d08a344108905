use Rattle.std.proofs.Common.{ap, sym, ◌∙◌, drop, ◌+◌}
use Rattle.std.proofs.lemmas.List.{drop_all}
use Rattle.values.specs.Limits.{weights}
use Rattle.values.specs.Replies.{joined}
use Rattle.values.specs.View.{val_of, vals_of}
use Rattle.values.proofs.Tables.{joined_next, joined-no_vals}
use Rattle.values.proofs.Weighing.{item_light, item_shallow, rest_light, rest_shallow}
use Rattle.values.proofs.value.Items.extend.Goals as goal

pub push-requires-clause-light : goal.push-requires-clause-light
push-requires-clause-light c = item_light c.args.items.now c.loop-item.item-index c.item-item.result (val_of c.in_ok-share.field-0) (weights c.loop-item.self) c.loop-item-test.true c.item-item.is c.in_ok-share.ensures c.loop-item.invariant.light

pub push-requires-clause-shallow : goal.push-requires-clause-shallow
push-requires-clause-shallow c = item_shallow c.args.items.now c.loop-item.item-index c.item-item.result (val_of c.in_ok-share.field-0) c.loop-item-test.true c.item-item.is c.in_ok-share.ensures c.loop-item.invariant.shallow

pub loop-item-preserved : goal.loop-item-preserved
loop-item-preserved c = record {
  items =
      ap (λ vs. joined vs (vals_of (drop (c.loop-item.item-index + 1) c.args.items.now))) c.in_ok-push.ensures
      ∙ joined_next c.loop-item.self c.args.items.now (val_of c.in_ok-share.field-0) c.loop-item.item-index c.item-item.result c.loop-item-test.true c.item-item.is c.in_ok-share.ensures
      ∙ c.loop-item.invariant.items;
  light = rest_light c.args.items.now c.loop-item.item-index c.item-item.result (val_of c.in_ok-share.field-0) c.loop-item.self c.push.new.self c.loop-item-test.true c.item-item.is c.in_ok-share.ensures c.in_ok-push.ensures c.loop-item.invariant.light;
  shallow = rest_shallow c.args.items.now c.loop-item.item-index c.item-item.result c.loop-item-test.true c.item-item.is c.loop-item.invariant.shallow;
}

pub returns : goal.returns
returns c = sym (joined-no_vals c.loop-item.self) ∙ ap (λ xs. joined c.loop-item.self (vals_of xs)) (sym (drop_all c.loop-item.item-index c.args.items.now c.loop-item-test.false)) ∙ c.loop-item.invariant.items
