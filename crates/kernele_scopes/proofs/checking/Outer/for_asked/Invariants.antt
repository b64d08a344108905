use Rattle.std.proofs.Common.{◌≡◌, drop}
use Rattle.kernele_scopes.specs.Scope.{names_in, with_names, definitions}
use Rattle.kernele_scopes.specs.Check.{names_of}
use Rattle.kernele_scopes.proofs.checking.Outer.for_asked.Given as goal

-- the map's names and those that are left
abbrev pub invariant-loop-top : goal.invariant-loop-top
invariant-loop-top l = with_names (drop l.top-index l.tops) (names_of l.around) ≡ with_names l.tops (names_in (definitions l.earlier))
