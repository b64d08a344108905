use Rattle.values.specs.View.{val_of}
use Rattle.sends.specs.View.{published_of, making_of}
use Rattle.sends.proofs.Publications.{smashed}
use Rattle.sends.proofs.publishing.smash.Goals as goal

pub returns-clause-did : goal.returns-clause-did
returns-clause-did c = smashed c.smash_by.result (making_of published_of) c.args.promise (val_of c.args.problem.now) (val_of c.in_ok-end.end) c.args.draft.now c.end_of.new.draft c.smash_by.new.draft c.in_ok-end.ensures.did c.smash_by.ensures.did
