use Rattle.std.proofs.Common.{sym, subst, ◌∙◌}
use Rattle.world_cells.specs.View.{world_of}
use Rattle.book_agenda.specs.AgendaView.{out_at}
use Rattle.book_agenda.specs.Enabled.{First}
use Rattle.book_agenda.proofs.Enabling.{first_message, first_learnt}
use Rattle.book_agenda.proofs.agenda.Agenda.first.Goals as goal

pub returns-in-Some : goal.returns-in-Some
returns-in-Some c = λ notes. first_message (world_of c.args.world.now) (out_at c.args.desk.now) c.args.self.now notes c.first_of_messages.ensures.ordered c.in-Some.step (sym c.in-Some.is ∙ c.first_of_messages.ensures.first)

pub returns-in-None : goal.returns-in-None
returns-in-None c = λ notes.
    subst (First (world_of c.args.world.now) (out_at c.args.desk.now)) (sym c.first_learning.ensures.first)
    (first_learnt (world_of c.args.world.now) (out_at c.args.desk.now) c.args.self.now notes c.first_of_messages.ensures.ordered c.first_learning.ensures.ordered (sym c.in-None.is ∙ c.first_of_messages.ensures.first))
