use Rattle.std.proofs.Common.{◌≡◌, take}
use Rattle.std.specs.List.{flat_map}
use Rattle.ids.specs.Quoted.{quoted_byte}
use Rattle.stepper_printing.proofs.quoting.plain_len.Given as goal

-- the bytes so far are plain
abbrev pub invariant-loop-byte : goal.invariant-loop-byte
invariant-loop-byte l = (l.len ≡ l.byte-index) × (flat_map quoted_byte (take l.len l.bytes) ≡ take l.len l.bytes)
