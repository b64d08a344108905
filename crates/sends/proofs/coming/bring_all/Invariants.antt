use Rattle.std.proofs.Common.{drop}
use Rattle.sends.specs.Playing.{IsSameTurn}
use Rattle.sends.proofs.BroughtIn.{Brings}
use Rattle.sends.proofs.coming.bring_all.Given as goal

-- the other references are left to come in
abbrev pub invariant-loop-reference : goal.invariant-loop-reference
invariant-loop-reference l = Brings l.references (drop l.reference-index l.references) l.initial.draft l.draft × IsSameTurn l.initial.draft l.draft
