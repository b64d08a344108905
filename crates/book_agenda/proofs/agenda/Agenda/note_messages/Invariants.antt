use Rattle.std.specs.List.{list_any}
use Rattle.std.specs.Ordering.{is_eq}
use Rattle.ids.specs.Cells.{message_cmp}
use Rattle.world_cells.specs.View.{world_of}
use Rattle.book_agenda.specs.AgendaView.{Places}
use Rattle.book_agenda.proofs.agenda.Agenda.note_messages.Given as goal

-- the messages so far are noted
abbrev pub invariant-loop-name : goal.invariant-loop-name
invariant-loop-name l = Places (world_of l.world) (λ m. list_any (λ e. is_eq (message_cmp e.0.now m)) l.yielded) l.initial.self l.self
