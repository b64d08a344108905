use Rattle.turn.proofs.ticket.Ticket+Ran.into_parts.Goals as goal

pub returns : goal.returns
returns c = c.self.view_is
