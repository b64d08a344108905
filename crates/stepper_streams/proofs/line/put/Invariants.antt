-- The bytes of the piece so far stand behind the text.
use Rattle.std.proofs.Common.{◌≡◌, ◌++◌, take, vec_capacity}
use Rattle.stepper_streams.proofs.line.put.Given as goal

abbrev pub invariant-loop-byte : goal.invariant-loop-byte
invariant-loop-byte l = (l.text.items ≡ l.initial.text.items ++ take l.byte-index l.piece) × (vec_capacity l.text ≡ vec_capacity l.initial.text)
