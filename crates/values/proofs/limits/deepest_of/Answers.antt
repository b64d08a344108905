use Rattle.values.proofs.Weighing.{deepest_more, deepest_end}
use Rattle.values.proofs.limits.deepest_of.Goals as goal

pub loop-item-preserved : goal.loop-item-preserved
loop-item-preserved c = deepest_more c.args.items.now c.loop-item.item-index c.item-item.result _ c.loop-item.depth c.max-depth.result c.item_depth.result c.loop-item-test.true c.item-item.is c.item_depth.ensures.depth c.max-depth.ensures c.loop-item.invariant

pub returns : goal.returns
returns c = deepest_end c.args.items.now c.loop-item.item-index _ c.loop-item.depth c.loop-item-test.false c.loop-item.invariant
