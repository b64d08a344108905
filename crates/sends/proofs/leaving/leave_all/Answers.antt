use Rattle.values.specs.View.{vals_of}
use Rattle.sends.specs.Vats.{references_in}
use Rattle.sends.proofs.Publications.{did_leave}
use Rattle.sends.proofs.leaving.leave_all.Goals as goal

pub returns-clause-did : goal.returns-clause-did
returns-clause-did c = did_leave c.carry.result (references_in (vals_of c.args.values.now)) c.new-found.result.keys c.gather_all.new.found.keys c.as_slice.result.now c.args.draft.now c.carry.new.draft c.new-found.ensures.empty c.in_ok-gather_all.ensures c.as_slice.ensures.keys c.carry.ensures.did
