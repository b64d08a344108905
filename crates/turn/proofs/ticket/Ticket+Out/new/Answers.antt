use Rattle.std.proofs.Common.{refl}
use Rattle.turn.proofs.ticket.Ticket+Out.new.Goals as goal

pub returns : goal.returns
returns c = refl
