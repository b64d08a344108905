use Rattle.std.proofs.Common.{◌≡◌, drop}
use Rattle.kernele_scopes.specs.Scope.{names_in, with_names, definitions}
use Rattle.kernele_scopes.specs.Check.{names_of}
use Rattle.kernele_scopes.proofs.checking.names_of_vats.Given as goal

-- the map's names and those that are left
abbrev pub invariant-loop-name : goal.invariant-loop-name
invariant-loop-name l = with_names (definitions (drop l.name-index l.earlier)) (names_of l.names) ≡ names_in (definitions l.earlier)
