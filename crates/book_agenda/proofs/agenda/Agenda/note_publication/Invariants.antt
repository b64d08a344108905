use Rattle.std.proofs.Common.{◌&&◌}
use Rattle.std.specs.Ordering.{is_eq}
use Rattle.ids.specs.Cells.{promise_cmp}
use Rattle.world_cells.specs.View.{world_of}
use Rattle.book_agenda.specs.AgendaView.{is_among, NotesViews}
use Rattle.book_agenda.proofs.agenda.Agenda.note_publication.Given as goal

-- the views of the vats so far are noted
abbrev pub invariant-loop-vat : goal.invariant-loop-vat
invariant-loop-vat l = NotesViews (world_of l.world) (λ p v. is_eq (promise_cmp l.promise p) && is_among l.yielded v) l.initial.self l.self
