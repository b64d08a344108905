use Rattle.std.proofs.Common.{◌≡◌, take}
use Rattle.values.specs.Verbs.{number_of}
use Rattle.values.proofs.verb.number.Given as goal

-- it is the number of the bytes so far
abbrev pub invariant-loop-byte : goal.invariant-loop-byte
invariant-loop-byte l = l.number ≡ number_of (take l.byte-index l.byte-items)
