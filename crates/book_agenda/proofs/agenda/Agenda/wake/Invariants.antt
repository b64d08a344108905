use Rattle.world_cells.specs.View.{world_of}
use Rattle.book_agenda.specs.AgendaView.{is_in, Places}
use Rattle.book_agenda.proofs.agenda.Agenda.wake.Given as goal

-- the messages so far are noted
abbrev pub invariant-loop-watcher : goal.invariant-loop-watcher
invariant-loop-watcher l = Places (world_of l.world) (λ m. is_in l.yielded m) l.initial.self l.self
