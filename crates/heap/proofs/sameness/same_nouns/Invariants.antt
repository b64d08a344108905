use Rattle.heap.proofs.Alike.{Remaining}
use Rattle.heap.proofs.sameness.same_nouns.Given as goal

-- the other nouns decide
abbrev pub invariant-loop-x : goal.invariant-loop-x
invariant-loop-x l = Remaining l.x-iterator.a.rest.now l.x-iterator.b.rest.now l.xs.value.items l.ys.value.items
