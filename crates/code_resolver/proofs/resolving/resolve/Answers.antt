use Rattle.std.proofs.Common.{rules}
use Rattle.code_resolver.proofs.resolving.resolve.Goals as goal

pub returns-clause-program : goal.returns-clause-program
returns-clause-program c = search rules

pub invariant_of-result : goal.invariant_of-result
invariant_of-result c = search rules
