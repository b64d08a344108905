use Rattle.stepper.proofs.Running.{SoFar}
use Rattle.stepper.proofs.engine.Engine.run.Given as goal

-- the replies to the steps so far stand before those to the steps that are left
abbrev pub invariant-steps : goal.invariant-steps
invariant-steps g l = SoFar g.W.Write.contents l.fn.most l.left l.fn.self l.self l.fn.out l.out

abbrev pub decreases-steps : goal.decreases-steps
decreases-steps g l = l.left
