use Rattle.std.proofs.Common.{rules}
use Rattle.eval_objects.proofs.nouns.undefined_problem.Goals as goal

pub returns : goal.returns
returns c = search rules
