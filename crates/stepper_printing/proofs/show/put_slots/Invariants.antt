use Rattle.stepper_streams.proofs.Giving.{LeadsTo}
use Rattle.stepper_printing.specs.Show.{slot_lines}
use Rattle.stepper_printing.specs.ShowView.{slots_in, slot_entries}
use Rattle.stepper_printing.proofs.show.put_slots.Given as goal

-- what may be put of those that are left leads to all
abbrev pub invariant-loop-slot : goal.invariant-loop-slot
invariant-loop-slot g l = LeadsTo g.W.Write.contents l.fn.out l.out (slot_lines (slot_entries l.slot-iterator)) (slot_lines (slots_in l.slots))
