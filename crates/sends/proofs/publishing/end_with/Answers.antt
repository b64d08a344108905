use Rattle.std.proofs.Common.{sym, ap}
use Rattle.values.specs.Data.{broken}
use Rattle.values.specs.View.{val_of, reply_of}
use Rattle.sends.specs.Making.{told}
use Rattle.sends.specs.View.{published_of}
use Rattle.sends.proofs.Publications.{ended_with}
use Rattle.sends.proofs.publishing.end_with.Goals as goal

pub returns-in-Gives-clause-did : goal.returns-in-Gives-clause-did
returns-in-Gives-clause-did c = ended_with c.publish.result published_of c.args.promise (reply_of c.args.told) (val_of c.in-Gives.value) c.args.draft.now c.publish.new.draft (ap (λ a. told (reply_of a)) (sym c.in-Gives.is)) c.publish.ensures.did

pub returns-in-Throws-clause-did : goal.returns-in-Throws-clause-did
returns-in-Throws-clause-did c = ended_with c.publish-in-Throws.result published_of c.args.promise (reply_of c.args.told) (broken c.in-Throws.problem) c.args.draft.now c.publish-in-Throws.new.draft (ap (λ a. told (reply_of a)) (sym c.in-Throws.is)) c.publish-in-Throws.ensures.did
