use Rattle.std.proofs.Common.{ap}
use Rattle.values.specs.View.{val_of}
use Rattle.eval_rules.specs.Rules.{ejects}
use Rattle.eval_rules.proofs.Answering.{made_end_is, in_words}
use Rattle.eval_rules.proofs.escapes.eject.Goals as goal

pub returns-else-is_open-clause-end : goal.returns-else-is_open-clause-end
returns-else-is_open-clause-end c =
    made_end_is c.throw_made.result c.throw_made.new.w c.new-problem.result _ _
    (in_words c.new-problem.result _ _ (ap (λ q. ejects q c.args.ejector (val_of c.args.value)) c.if-is_open.ensures) c.new-problem.ensures)
    c.throw_made.ensures.end
