use Rattle.std.proofs.Common.{arith}
use Rattle.world_cells.specs.View.{world_of}
use Rattle.book_agenda.proofs.Renewing.{next_noted, all_noted}
use Rattle.book_agenda.proofs.agenda.Agenda.note.Goals as goal

pub loop-key-preserved : goal.loop-key-preserved
loop-key-preserved c = λ begun. next_noted (world_of c.args.world.now) c.args.written.now c.loop-key.key-index c.key-item.result _ _ (omega arith) c.key-item.is (c.loop-key.invariant begun) c.in_ok-note_cell.ensures

pub returns : goal.returns
returns c = λ before notes alike. all_noted before (world_of c.args.world.now) c.args.written.now c.loop-key.key-index c.args.self.now c.loop-key.self (omega arith) notes alike c.loop-key.invariant
