use Rattle.event.proofs.Finding.{FoundUpTo}
use Rattle.event.proofs.found.hold_found.Given as goal

abbrev pub invariant-loop-place : goal.invariant-loop-place
invariant-loop-place g l = FoundUpTo g.K.PartialEq.eq g.V.StandsFor.content l.touches l.cells l.place
