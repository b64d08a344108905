use Rattle.stepper_streams.proofs.Giving.{LeadsTo}
use Rattle.stepper_printing.specs.Show.{object_lines}
use Rattle.stepper_printing.specs.ShowView.{objects_in, object_entries}
use Rattle.stepper_printing.proofs.show.put_objects.Given as goal

-- what may be put of those that are left leads to all
abbrev pub invariant-loop-name : goal.invariant-loop-name
invariant-loop-name g l = LeadsTo g.W.Write.contents l.fn.out l.out (object_lines (object_entries l.name-iterator)) (object_lines (objects_in l.objects))
