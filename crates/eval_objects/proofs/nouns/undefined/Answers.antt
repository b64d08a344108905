use Rattle.eval_rules.proofs.Answering.{made_end_is}
use Rattle.eval_objects.proofs.nouns.undefined.Goals as goal

pub returns : goal.returns
returns c = made_end_is c.throw_made.result c.throw_made.new.w c.undefined_problem-problem.result _ _ c.undefined_problem-problem.ensures c.throw_made.ensures.end
