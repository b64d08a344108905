use Rattle.std.proofs.Common.{arith}
use Rattle.undo.proofs.Written.{keys_more}
use Rattle.undo.proofs.records.add_keys.Goals as goal

pub loop-record-preserved : goal.loop-record-preserved
loop-record-preserved c = keys_more c.args.records.now c.loop-record.record-index c.record-item.result _ _ _ _ (omega arith) c.record-item.is c.in_ok-key.ensures c.loop-record.invariant c.in_ok-push.ensures.items
