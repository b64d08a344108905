use Rattle.std.proofs.Common.{◌≡◌, drop}
use Rattle.sends.specs.Playing.{under, IsSameTurn, looked_at}
use Rattle.sends.proofs.ends.look_at.Given as goal

-- the other views are left to look at
abbrev pub invariant-loop-promise : goal.invariant-loop-promise
invariant-loop-promise l = (looked_at (drop l.promise-index l.promises) (under l.draft) ≡ looked_at l.promises (under l.initial.draft)) × IsSameTurn l.initial.draft l.draft
