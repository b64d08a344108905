use Rattle.std.proofs.Common.{ap, subst, sym, ◌∙◌}
use Rattle.std.specs.Prelude.{IfOk}
use Rattle.history.specs.Records.{contents}
use Rattle.world_cells.specs.Theory.{cells}
use Rattle.world_cells.specs.World.{World}
use Rattle.book_agenda.specs.AgendaView.{NotedIn}
use Rattle.book.proofs.book.Book.agenda.Goals as goal

pub returns-in-None-clause-noted : goal.returns-in-None-clause-noted
returns-in-None-clause-noted c = subst (λ (w : World). IfOk c.new.result (NotedIn w)) (ap (contents cells) c.world.ensures) c.new.ensures

pub returns-in-Some-clause-noted : goal.returns-in-Some-clause-noted
returns-in-Some-clause-noted c = c.args.self.now.noted c.in-Some.agenda (sym c.take.ensures.value ∙ c.in-Some.is)
