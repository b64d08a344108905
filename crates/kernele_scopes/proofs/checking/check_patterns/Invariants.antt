use Rattle.std.proofs.Common.{◌≡◌, drop}
use Rattle.kernele_scopes.specs.Scope.{all_bound}
use Rattle.kernele_scopes.specs.Check.{scopes_in}
use Rattle.kernele_scopes.proofs.checking.check_patterns.Given as goal

-- what the patterns that are left give here is what all give
abbrev pub invariant-loop-pattern : goal.invariant-loop-pattern
invariant-loop-pattern l = all_bound l.patterns (scopes_in l.initial.scopes) ≡ all_bound (drop l.pattern-index l.patterns) (scopes_in l.scopes)
