use Rattle.std.proofs.Common.{◌≡◌, drop}
use Rattle.kernele_scopes.specs.Scope.{names_of_all}
use Rattle.code.specs.Frames.{behind, only_names}
use Rattle.code_resolver.proofs.frame.add_all_bound.Given as goal

-- the names so far, and those of the patterns that are left
abbrev pub invariant-loop-pattern : goal.invariant-loop-pattern
invariant-loop-pattern l = behind l.own_scope (only_names (names_of_all (drop l.pattern-index l.patterns))) l.frame.items ≡ behind l.own_scope (only_names (names_of_all l.patterns)) l.initial.frame.items
