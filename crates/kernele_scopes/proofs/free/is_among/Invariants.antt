use Rattle.std.proofs.Common.{◌≡◌, drop}
use Rattle.kernele_scopes.specs.Free.{is_among}
use Rattle.kernele_scopes.proofs.free.is_among.Given as goal

-- what the names that are left tell is what all tell
abbrev pub invariant-loop-other : goal.invariant-loop-other
invariant-loop-other l = is_among l.names l.name ≡ is_among (drop l.other-index l.names) l.name
