use Rattle.stepper_streams.proofs.Giving.{LeadsTo}
use Rattle.stepper_printing.specs.Show.{view_lines}
use Rattle.stepper_printing.specs.ShowView.{views_in, view_entries}
use Rattle.stepper_printing.proofs.show.put_views.Given as goal

-- what may be put of those that are left leads to all
abbrev pub invariant-loop-promise : goal.invariant-loop-promise
invariant-loop-promise g l = LeadsTo g.W.Write.contents l.fn.out l.out (view_lines (view_entries l.promise-iterator)) (view_lines (views_in l.views))
