use Rattle.std.proofs.Common.{drop}
use Rattle.values.specs.View.{vals_of}
use Rattle.sends.specs.Playing.{IsSameTurn}
use Rattle.sends.proofs.AllSettled.{Settles}
use Rattle.sends.proofs.sending.settle_all.Given as goal

-- the other values are left to settle
abbrev pub invariant-loop-value : goal.invariant-loop-value
invariant-loop-value l = Settles (vals_of l.values) (vals_of l.row.items) (vals_of (drop l.value-index l.values)) l.initial.draft l.draft × IsSameTurn l.initial.draft l.draft
