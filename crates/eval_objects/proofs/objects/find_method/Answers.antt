use Rattle.std.proofs.Common.{rules}
use Rattle.eval_objects.proofs.objects.find_method.Goals as goal

pub returns-in-Some : goal.returns-in-Some
returns-in-Some c = search rules
