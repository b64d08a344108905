use Rattle.values.specs.View.{vals_of}
use Rattle.sends.specs.Vats.{references_in}
use Rattle.sends.proofs.BroughtIn.{did_receive}
use Rattle.sends.proofs.coming.receive_all.Goals as goal

pub returns-clause-did : goal.returns-clause-did
returns-clause-did c = did_receive c.arrive.result c.args.fences.now (references_in (vals_of c.args.values.now)) c.new-found.result.keys c.gather_all.new.found.keys c.as_slice.result.now c.args.draft.now c.arrive.new.draft c.new-found.ensures.empty c.in_ok-gather_all.ensures c.as_slice.ensures.keys c.arrive.ensures.did
