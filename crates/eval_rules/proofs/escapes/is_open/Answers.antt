use Rattle.std.proofs.Common.{◌∙◌, rules}
use Rattle.eval_rules.proofs.Ejectors.{open_here, open_on, open_nowhere}
use Rattle.eval_rules.proofs.escapes.is_open.Goals as goal

pub returns-then-is_eq : goal.returns-then-is_eq
returns-then-is_eq c = open_here _ _ _ _ c.in-Some.ensures.cases.0 (search rules) ∙ c.loop-newest.invariant

pub loop-newest-preserved : goal.loop-newest-preserved
loop-newest-preserved c = open_on _ _ _ _ c.in-Some.ensures.cases.0 (search rules) ∙ c.loop-newest.invariant

pub returns : goal.returns
returns c = open_nowhere c.loop-newest.rest.now c.args.ejector c.in_default.ensures.cases ∙ c.loop-newest.invariant
