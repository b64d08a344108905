use Rattle.std.proofs.Common.{rules}
use Rattle.code_resolver.proofs.frame.add_name.Goals as goal

pub returns-in_ok-push : goal.returns-in_ok-push
returns-in_ok-push c = search rules
