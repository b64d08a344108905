use Rattle.kernele_scopes.proofs.Told.{free_names_are_in_scope, unbound_names_are_free}
use Rattle.kernele_scopes.proofs.free.checks_free_names.Goals as goal

pub returns-clause-passed : goal.returns-clause-passed
returns-clause-passed c = free_names_are_in_scope

pub returns-clause-unbound : goal.returns-clause-unbound
returns-clause-unbound c = unbound_names_are_free
