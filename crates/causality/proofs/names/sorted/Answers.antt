use Rattle.causality.proofs.NameSets.{one_more_name}
use Rattle.causality.proofs.names.sorted.Goals as goal

pub loop-name-preserved : goal.loop-name-preserved
loop-name-preserved c =
    one_more_name c.loop-name.set.keys c.insert.new.self.keys c.args.names.now c.loop-name.name-index (record { 0 = 0 }) c.loop-name-test.true c.in_ok-insert.ensures.updates.0 c.loop-name.invariant
