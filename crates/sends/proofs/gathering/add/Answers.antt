use Rattle.sends.proofs.EachOnce.{added}
use Rattle.sends.proofs.gathering.add.Goals as goal

pub returns-in-Ok : goal.returns-in-Ok
returns-in-Ok c = added c.args.found.now.keys c.insert.new.self.keys c.args.reference c.in-Ok.ensures.keys
