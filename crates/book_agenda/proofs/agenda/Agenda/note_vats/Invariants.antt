use Rattle.std.proofs.Common.{◌&&◌, is_some}
use Rattle.heap.specs.State.{view_cell}
use Rattle.world_cells.specs.View.{world_of}
use Rattle.world_cells.specs.World.{vat_state}
use Rattle.book_agenda.specs.AgendaView.{is_among, NotesViews}
use Rattle.book_agenda.proofs.agenda.Agenda.note_vats.Given as goal

-- the views of the vats so far are noted
abbrev pub invariant-loop-vat : goal.invariant-loop-vat
invariant-loop-vat l = NotesViews (world_of l.world) (λ p v. is_among l.yielded v && is_some (vat_state (world_of l.world) v (view_cell p))) l.initial.self l.self
