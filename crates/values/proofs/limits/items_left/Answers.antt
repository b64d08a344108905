use Rattle.std.proofs.Common.{Some}
use Rattle.values.proofs.Weighing.{more_left, last_left}
use Rattle.values.proofs.limits.items_left.Goals as goal

pub loop-item-preserved : goal.loop-item-preserved
loop-item-preserved c = λ r h. c.loop-item.invariant r (more_left r c.args.items.now c.loop-item.item-index c.item-item.result c.loop-item.left c.in_ok-left.left c.args.depth c.loop-item-test.true c.item-item.is c.in_ok-left.ensures.0 c.in_ok-left.ensures.1 h)

pub returns : goal.returns
returns c = c.loop-item.invariant (Some c.loop-item.left) (last_left c.args.items.now c.loop-item.item-index c.loop-item.left c.args.depth c.loop-item-test.false)
