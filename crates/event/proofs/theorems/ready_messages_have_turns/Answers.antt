use Rattle.event.proofs.Readiness.{ready_exactly}
use Rattle.event.proofs.theorems.ready_messages_have_turns.Goals as goal

pub returns : goal.returns
returns c = ready_exactly
