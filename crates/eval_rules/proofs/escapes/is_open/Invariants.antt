use Rattle.std.proofs.Common.{◌≡◌, length}
use Rattle.eval_rules.specs.Rules.{is_open}
use Rattle.eval_rules.specs.View.{opened_of}
use Rattle.eval_rules.proofs.escapes.is_open.Given as goal

abbrev pub invariant-loop-newest : goal.invariant-loop-newest
invariant-loop-newest l = is_open l.ejector (opened_of l.rest) ≡ is_open l.ejector (opened_of l.fn.opened.items)

abbrev pub decreases-loop-newest : goal.decreases-loop-newest
decreases-loop-newest l = length l.rest
