use Rattle.std.proofs.Common.{ap}
use Rattle.turn.specs.declared.ticket.Ran.{Ran}
use Rattle.turn.proofs.ticket.Ticket+Ran.outcome.Goals as goal

pub returns : goal.returns
returns c = ap (λ (r : Ran). r.outcome) c.self.view_is
