use Rattle.std.proofs.Common.{◌≡◌, ◌++◌, drop}
use Rattle.kernele_scopes.specs.Scope.{names_of_all}
use Rattle.kernele_scopes.proofs.naming.add_all_bound.Given as goal

-- the names so far, and those of the patterns that are left
abbrev pub invariant-loop-pattern : goal.invariant-loop-pattern
invariant-loop-pattern l = l.names.items ++ names_of_all (drop l.pattern-index l.patterns) ≡ l.initial.names.items ++ names_of_all l.patterns
