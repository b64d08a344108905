use Rattle.std.proofs.Common.{drop}
use Rattle.sends.specs.Playing.{IsSameTurn}
use Rattle.sends.proofs.Carrying.{Carries}
use Rattle.sends.proofs.leaving.carry.Given as goal

-- the other references are left to carry
abbrev pub invariant-loop-reference : goal.invariant-loop-reference
invariant-loop-reference l = Carries l.references l.row (drop l.reference-index l.references) l.initial.draft l.draft × IsSameTurn l.initial.draft l.draft
