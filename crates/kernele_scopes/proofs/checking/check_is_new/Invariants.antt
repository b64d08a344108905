use Rattle.std.proofs.Common.{◌≡◌, drop, map}
use Rattle.kernele_scopes.specs.Scope.{has_signature}
use Rattle.kernele_scopes.specs.Check.{signature_of}
use Rattle.kernele_scopes.proofs.checking.check_is_new.Given as goal

-- what the methods that are left tell is what all tell
abbrev pub invariant-loop-other : goal.invariant-loop-other
invariant-loop-other l = has_signature (map signature_of l.earlier) (signature_of l.method) ≡ has_signature (map signature_of (drop l.other-index l.earlier)) (signature_of l.method)
