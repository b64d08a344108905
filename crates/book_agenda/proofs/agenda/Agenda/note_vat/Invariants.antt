use Rattle.std.proofs.Common.{◌&&◌}
use Rattle.std.specs.List.{list_any}
use Rattle.std.specs.Ordering.{is_eq}
use Rattle.ids.specs.Cells.{promise_cmp, vat_cmp}
use Rattle.world_cells.specs.View.{world_of}
use Rattle.book_agenda.specs.AgendaView.{NotesViews}
use Rattle.book_agenda.proofs.agenda.Agenda.note_vat.Given as goal

-- the views so far are noted
abbrev pub invariant-loop-promise : goal.invariant-loop-promise
invariant-loop-promise l = NotesViews (world_of l.world) (λ p v. is_eq (vat_cmp l.vat v) && list_any (λ e. is_eq (promise_cmp e.0.now p)) l.yielded) l.initial.self l.self
