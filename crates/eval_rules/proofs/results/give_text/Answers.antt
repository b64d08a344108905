use Rattle.std.proofs.Common.{ap}
use Rattle.eval_rules.specs.Outcomes.{reply_end}
use Rattle.eval_rules.proofs.Answering.{end_is}
use Rattle.eval_rules.proofs.results.give_text.Goals as goal

pub returns : goal.returns
returns c = end_is c.give.result c.give.new.into c.give.new.w _ _ _ (ap reply_end c.in_ok-answer.ensures) c.give.ensures
