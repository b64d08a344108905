use Rattle.std.proofs.Common.{ap, sym}
use Rattle.eval_rules.specs.Outcomes.{reply_end}
use Rattle.values.specs.View.{reply_of}
use Rattle.eval_rules.proofs.Answering.{thrown_end_is}
use Rattle.eval_rules.proofs.results.give.Goals as goal

pub returns-in-Throws : goal.returns-in-Throws
returns-in-Throws c = thrown_end_is c.throw.result c.throw.new.w _ _ _ (ap (λ a. reply_end (reply_of a)) (sym c.in-Throws.is)) c.throw.ensures.end
