use Rattle.std.proofs.Common.{ap}
use Rattle.values.specs.View.{vals_of}
use Rattle.turn.proofs.Calling.{shared_all, shared_more}
use Rattle.turn.proofs.calls.share_all.Goals as goal

pub loop-value-init : goal.loop-value-init
loop-value-init c = ap vals_of c.in_ok-row.ensures.items

pub loop-value-preserved : goal.loop-value-preserved
loop-value-preserved c = shared_more c.loop-value.row.items c.args.values.now _ _ c.loop-value-test.true c.value-item.is c.loop-value.invariant c.in_ok-share.ensures c.in_ok-push.ensures.items

pub returns : goal.returns
returns c = shared_all c.loop-value.row.items c.args.values.now c.loop-value-test.false c.loop-value.invariant
