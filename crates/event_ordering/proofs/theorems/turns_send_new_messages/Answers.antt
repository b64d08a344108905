use Rattle.event_ordering.proofs.Sending.{others_send_nothing, sends_are_new, new_turns}
use Rattle.event_ordering.proofs.theorems.turns_send_new_messages.Goals as goal

pub returns-clause-messages : goal.returns-clause-messages
returns-clause-messages c = others_send_nothing

pub returns-clause-sends : goal.returns-clause-sends
returns-clause-sends c = sends_are_new

pub returns-clause-turns : goal.returns-clause-turns
returns-clause-turns c = new_turns
