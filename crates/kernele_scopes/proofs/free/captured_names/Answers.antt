use Rattle.std.proofs.Common.{rules}
use Rattle.kernele_scopes.proofs.Finding.{found_all}
use Rattle.kernele_scopes.proofs.free.captured_names.Goals as goal

pub returns : goal.returns
returns c = search (rules, found_all)
