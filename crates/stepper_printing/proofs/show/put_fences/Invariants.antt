use Rattle.stepper_streams.proofs.Giving.{LeadsTo}
use Rattle.stepper_printing.specs.Show.{fence_lines}
use Rattle.stepper_printing.specs.ShowView.{fences_in, fence_entries}
use Rattle.stepper_printing.proofs.show.put_fences.Given as goal

-- what may be put of those that are left leads to all
abbrev pub invariant-loop-reference : goal.invariant-loop-reference
invariant-loop-reference g l = LeadsTo g.W.Write.contents l.fn.out l.out (fence_lines (fence_entries l.reference-iterator)) (fence_lines (fences_in l.fences))
