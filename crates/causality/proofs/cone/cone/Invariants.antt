use Rattle.std.proofs.Common.{length}
use Rattle.journal.specs.Journals.{items_of}
use Rattle.causality.proofs.Gathering.{Gathering, left_from}
use Rattle.causality.proofs.cone.cone.Given as goal

-- the names that have joined, and the places of those that wait
abbrev pub invariant-loop-place : goal.invariant-loop-place
invariant-loop-place l = Gathering (items_of l.journal) (length l.journal.settled.now) l.fn.root l.names.items l.waiting.keys

-- each that waits stands behind all that have joined
abbrev pub decreases-loop-place : goal.decreases-loop-place
decreases-loop-place l = left_from (length (items_of l.journal)) l.waiting.keys
