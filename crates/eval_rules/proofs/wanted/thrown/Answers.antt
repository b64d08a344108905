use Rattle.eval_rules.proofs.Answering.{made_end_is}
use Rattle.eval_rules.proofs.wanted.thrown.Goals as goal

pub returns : goal.returns
returns c = made_end_is c.throw_made.result c.throw_made.new.w c.thrown_problem-problem.result _ _ c.thrown_problem-problem.ensures c.throw_made.ensures.end
