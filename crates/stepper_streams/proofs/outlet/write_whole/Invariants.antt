-- What the writer took, and what is left, are the bytes.
use Rattle.std.proofs.Common.{◌≡◌, List, ℕ, ◌++◌, length}
use Rattle.std.specs.Io.KnownBytes.{Appends}
use Rattle.stepper_streams.specs.Counted.{inner, failures}
use Rattle.stepper_streams.proofs.outlet.write_whole.Given as goal

abbrev pub invariant-writes : goal.invariant-writes
invariant-writes g l = (front : List ℕ)
    × (l.initial.bytes ≡ front ++ l.rest)
    × Appends (g.W.Write.contents (inner l.initial.sink)) (g.W.Write.contents (inner l.sink)) front
    × (failures l.sink ≡ failures l.initial.sink)

abbrev pub decreases-writes : goal.decreases-writes
decreases-writes g l = length l.rest
