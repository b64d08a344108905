use Rattle.std.proofs.Common.{drop}
use Rattle.sends.specs.Playing.{IsSameTurn}
use Rattle.sends.proofs.BroughtIn.{Receives}
use Rattle.sends.proofs.coming.join_all.Given as goal

-- the fences of the other references are left to add
abbrev pub invariant-loop-reference : goal.invariant-loop-reference
invariant-loop-reference l = Receives l.fences l.references (drop l.reference-index l.references) l.initial.draft l.draft × IsSameTurn l.initial.draft l.draft
