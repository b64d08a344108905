use Rattle.std.proofs.Common.{ap, ◌∙◌}
use Rattle.world_cells.specs.View.{world_of}
use Rattle.book_agenda.specs.AgendaView.{out_at}
use Rattle.book_agenda.specs.Found.{step_if}
use Rattle.book_agenda.proofs.agenda.Agenda.front_step.Goals as goal

pub returns-in-Some : goal.returns-in-Some
returns-in-Some c = c.step_by.ensures ∙ ap (step_if (world_of c.args.world.now) (out_at c.args.desk.now) c.args.name) c.in-Some.ensures

pub returns-in-None : goal.returns-in-None
returns-in-None c = ap (step_if (world_of c.args.world.now) (out_at c.args.desk.now) c.args.name) c.in-None.ensures
