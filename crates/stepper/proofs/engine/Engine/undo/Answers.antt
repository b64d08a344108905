use Rattle.std.proofs.Common.{refl}
use Rattle.book.specs.BookView.{book_of}
use Rattle.stepper.proofs.Answered.{accepts, refuses, undo_done, undo_fails}
use Rattle.stepper.proofs.engine.Engine.undo.Goals as goal

pub returns-in-Ok : goal.returns-in-Ok
returns-in-Ok g c = accepts (undo_done c.args.self.now.limits (book_of c.args.self.now.book) c.in-Ok.ensures.ok) c.put_undone.ensures refl refl

pub returns-in-Err : goal.returns-in-Err
returns-in-Err g c = refuses (undo_fails c.args.self.now.limits (book_of c.args.self.now.book) c.in-Err.fault c.in-Err.ensures.err c.in-Err.ensures.unchanged) c.refuse_call.ensures refl
