use Rattle.std.proofs.Common.{refl}
use Rattle.eval_rules.proofs.Answering.{made_end_is, in_words}
use Rattle.eval_objects.proofs.calls.not_near.Goals as goal

pub returns : goal.returns
returns c = made_end_is c.throw_made.result c.throw_made.new.w c.new-problem.result _ _ (in_words c.new-problem.result _ _ refl c.new-problem.ensures) c.throw_made.ensures.end
