use Rattle.eval_rules.proofs.Answering.{made_is}
use Rattle.eval_rules.proofs.halting.throw_made.Goals as goal

pub returns-in-Ok-clause-end : goal.returns-in-Ok-clause-end
returns-in-Ok-clause-end c = made_is c.throw.result c.throw.new.w c.args.made _ _ c.in-Ok.is c.throw.ensures.end
