use Rattle.std.proofs.Common.{refl}
use Rattle.book.specs.BookView.{book_of}
use Rattle.stepper.proofs.Answered.{accepts, refuses}
use Rattle.stepper.proofs.Asked.{object_answered, object_fails}
use Rattle.stepper.proofs.engine.Engine.object.Goals as goal

pub returns-in-Ok : goal.returns-in-Ok
returns-in-Ok g c = accepts (object_answered c.args.self.now.limits (book_of c.args.self.now.book) c.world.ensures.same c.in-Ok.ensures.told) c.put_told_object.ensures refl refl

pub returns-in-Err : goal.returns-in-Err
returns-in-Err g c = refuses (object_fails c.args.self.now.limits (book_of c.args.self.now.book) c.world.ensures.same c.in-Err.fault c.in-Err.ensures.refused) c.refuse_question.ensures refl
