use Rattle.std.proofs.Common.{ap, sym, ◌∙◌, drop, ◌+◌}
use Rattle.std.proofs.lemmas.List.{drop_all}
use Rattle.values.specs.Replies.{joined}
use Rattle.values.specs.View.{vals_of}
use Rattle.values.proofs.Tables.{joined_more, joined-no_vals}
use Rattle.refs.proofs.settling.shared.Goals as goal

pub loop-item-init : goal.loop-item-init
loop-item-init c = ap (λ xs. joined (vals_of xs) (vals_of c.args.items.now)) c.in_ok-row.ensures.items

pub loop-item-preserved : goal.loop-item-preserved
loop-item-preserved c =
    ap (λ xs. joined (vals_of xs) (vals_of (drop (c.loop-item.item-index + 1) c.args.items.now))) c.in_ok-push.ensures.items
    ∙ joined_more c.loop-item.row.items c.args.items.now c.in_ok-share.field-0 c.loop-item.item-index c.item-item.result c.loop-item-test.true c.item-item.is c.in_ok-share.ensures
    ∙ c.loop-item.invariant

pub returns : goal.returns
returns c = sym (joined-no_vals (vals_of c.loop-item.row.items)) ∙ ap (λ xs. joined (vals_of c.loop-item.row.items) (vals_of xs)) (sym (drop_all c.loop-item.item-index c.args.items.now c.loop-item-test.false)) ∙ c.loop-item.invariant
