use Rattle.values.specs.View.{val_of}
use Rattle.sends.specs.Vats.{references}
use Rattle.sends.proofs.BroughtIn.{did_receive}
use Rattle.sends.proofs.coming.receive.Goals as goal

pub returns-clause-did : goal.returns-clause-did
returns-clause-did c = did_receive c.arrive.result c.args.fences.now (references (val_of c.args.value.now)) c.new-found.result.keys c.gather.new.found.keys c.as_slice.result.now c.args.draft.now c.arrive.new.draft c.new-found.ensures.empty c.in_ok-gather.ensures c.as_slice.ensures.keys c.arrive.ensures.did
