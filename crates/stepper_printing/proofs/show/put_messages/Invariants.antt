use Rattle.stepper_streams.proofs.Giving.{LeadsTo}
use Rattle.stepper_printing.specs.Show.{message_lines}
use Rattle.stepper_printing.specs.ShowView.{messages_in, message_entries}
use Rattle.stepper_printing.proofs.show.put_messages.Given as goal

-- what may be put of those that are left leads to all
abbrev pub invariant-loop-name : goal.invariant-loop-name
invariant-loop-name g l = LeadsTo g.W.Write.contents l.fn.out l.out (message_lines l.vats.entries (message_entries l.name-iterator)) (message_lines l.vats.entries (messages_in l.messages))
