use Rattle.sends.proofs.BroughtIn.{all_arrived}
use Rattle.sends.proofs.coming.arrive.Goals as goal

pub returns-clause-did : goal.returns-clause-did
returns-clause-did c = all_arrived c.join_all.result c.args.fences.now c.args.references.now c.args.draft.now c.bring_all.new.draft c.join_all.new.draft c.in_ok-bring_all.ensures.did c.join_all.ensures.did
