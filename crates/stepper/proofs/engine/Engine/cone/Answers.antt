use Rattle.std.proofs.Common.{refl}
use Rattle.book.specs.BookView.{book_of}
use Rattle.stepper.proofs.Answered.{accepts, refuses, cone_done, cone_fails}
use Rattle.stepper.proofs.engine.Engine.cone.Goals as goal

pub returns-in-Ok : goal.returns-in-Ok
returns-in-Ok g c = accepts (cone_done c.args.self.now.limits (book_of c.args.self.now.book) c.deref.ensures.value c.in-Ok.ensures.ok) c.put_cone.ensures refl refl

pub returns-in-Err : goal.returns-in-Err
returns-in-Err g c = refuses (cone_fails c.args.self.now.limits (book_of c.args.self.now.book) c.in-Err.fault c.in-Err.ensures.err) c.refuse_call.ensures refl
