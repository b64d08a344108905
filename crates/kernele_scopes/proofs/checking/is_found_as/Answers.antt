use Rattle.std.proofs.Common.{rules}
use borrow.Author.Tests.{tests}
use Rattle.kernele_scopes.proofs.checking.is_found_as.Goals as goal

pub returns-then-eq : goal.returns-then-eq
returns-then-eq c = search (tests, rules)
