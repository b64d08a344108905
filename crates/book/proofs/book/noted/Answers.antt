use Rattle.world_cells.specs.View.{world_of}
use Rattle.book_agenda.specs.AgendaView.{NotedIn}
use Rattle.book.proofs.Noting.{there}
use Rattle.book.proofs.book.noted.Goals as goal

pub returns-in-Ok : goal.returns-in-Ok
returns-in-Ok c before h alike = there (NotedIn (world_of c.args.world.now)) c.note.new.self (c.in-Ok.ensures before (h c.in_ok-agenda.agenda c.in_ok-agenda.was) alike)
