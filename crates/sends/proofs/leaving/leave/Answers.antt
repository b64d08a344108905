use Rattle.values.specs.View.{val_of}
use Rattle.sends.specs.Vats.{references}
use Rattle.sends.proofs.Publications.{did_leave}
use Rattle.sends.proofs.leaving.leave.Goals as goal

pub returns-clause-did : goal.returns-clause-did
returns-clause-did c = did_leave c.carry.result (references (val_of c.args.value.now)) c.new-found.result.keys c.gather.new.found.keys c.as_slice.result.now c.args.draft.now c.carry.new.draft c.new-found.ensures.empty c.in_ok-gather.ensures c.as_slice.ensures.keys c.carry.ensures.did
