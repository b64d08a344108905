use Rattle.std.proofs.Common.{ap}
use Rattle.values.specs.View.{val_of}
use Rattle.sends.specs.View.{published_of, making_of}
use Rattle.sends.proofs.Publications.{smashed_by_text}
use Rattle.sends.proofs.publishing.smash_by.Goals as goal

pub returns-in-Text-clause-did : goal.returns-in-Text-clause-did
returns-in-Text-clause-did c = smashed_by_text c.use_resolver.result (making_of published_of) c.args.promise (val_of c.args.end) c.in-Text.words c.args.draft.now c.use_resolver.new.draft (ap val_of c.in-Text.is) c.use_resolver.ensures.did
