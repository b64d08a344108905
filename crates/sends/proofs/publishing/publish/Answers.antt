use Rattle.values.specs.View.{val_of}
use Rattle.sends.proofs.Publications.{did_publish}
use Rattle.sends.proofs.publishing.publish.Goals as goal

pub returns-clause-did : goal.returns-clause-did
returns-clause-did c = did_publish c.args.promise (val_of c.args.value) c.in_ok-fences.fences c.in_ok-joined.joined c.args.draft.now c.leave.new.draft c.enter_if_come.new.draft c.in_ok-fences.ensures.did c.in_ok-joined.ensures.did
