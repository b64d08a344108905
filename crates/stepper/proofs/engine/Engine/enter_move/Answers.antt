use Rattle.std.proofs.Common.{refl}
use Rattle.book.specs.BookView.{book_of}
use Rattle.stepper.proofs.Answered.{accepts, refuses, move_done, move_fails}
use Rattle.stepper.proofs.engine.Engine.enter_move.Goals as goal

pub returns-in-Ok : goal.returns-in-Ok
returns-in-Ok g c = accepts (refl, move_done c.args.self.now.limits (book_of c.args.self.now.book) c.in-Ok.ensures.ok) c.put_done.ensures refl refl

pub returns-in-Err : goal.returns-in-Err
returns-in-Err g c = refuses (refl, move_fails c.args.self.now.limits (book_of c.args.self.now.book) c.in-Err.fault c.in-Err.ensures.err c.in-Err.ensures.unchanged) c.refuse_call.ensures refl
