use Rattle.std.proofs.Common.{drop}
use Rattle.world_cells.specs.View.{world_of}
use Rattle.book_agenda.proofs.Renewing.{Renewed}
use Rattle.book_agenda.proofs.agenda.Agenda.note.Given as goal

-- what was right but for all that was written is right but for the cells that are left
abbrev pub invariant-loop-key : goal.invariant-loop-key
invariant-loop-key l = Renewed (world_of l.world) l.written l.initial.self → Renewed (world_of l.world) (drop l.key-index l.written) l.self
