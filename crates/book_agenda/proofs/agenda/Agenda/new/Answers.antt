use Rattle.world_cells.specs.View.{world_of}
use Rattle.book_agenda.proofs.Noted.{noted_all}
use Rattle.book_agenda.proofs.agenda.Agenda.new.Goals as goal

pub returns : goal.returns
returns c = noted_all (world_of c.args.world.now) _ _ _ c.new.ensures.none c.new.ensures.indexed c.new-2.ensures.empty c.new-3.ensures.empty c.new-4.ensures.empty c.new-5.ensures.empty c.in_ok-note_messages.ensures c.in_ok-note_vats.ensures
