use Rattle.journal.proofs.Settling.{live_at}
use Rattle.journal.proofs.settled.Settled.of_all.Goals as goal

pub of-requires : goal.of-requires
of-requires c = live_at c.args.entries.now c.loop-entry.entry-index c.entry-item.result c.loop-entry-test.true c.entry-item.is c.requires
