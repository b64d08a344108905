use Rattle.std.proofs.Common.{◌≡◌, drop}
use Rattle.kernele_scopes.specs.Free.{defines}
use Rattle.kernele_scopes.proofs.free.defines.Given as goal

-- what the names that are left tell is what all tell
abbrev pub invariant-loop-top : goal.invariant-loop-top
invariant-loop-top l = defines l.names l.name ≡ defines (drop l.top-index l.names) l.name
