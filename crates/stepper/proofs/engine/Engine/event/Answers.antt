use Rattle.std.proofs.Common.{refl}
use Rattle.book.specs.BookView.{book_of}
use Rattle.stepper.proofs.Answered.{accepts, refuses}
use Rattle.stepper.proofs.Asked.{event_answered, event_fails}
use Rattle.stepper.proofs.engine.Engine.event.Goals as goal

pub returns-in-Ok : goal.returns-in-Ok
returns-in-Ok g c = accepts (event_answered c.args.self.now.limits (book_of c.args.self.now.book) c.journal.ensures.settled c.journal.ensures.lines c.in-Ok.ensures.open c.in-Ok.ensures.told) c.put_told_event.ensures refl refl

pub returns-in-Err : goal.returns-in-Err
returns-in-Err g c = refuses (event_fails c.args.self.now.limits (book_of c.args.self.now.book) c.journal.ensures.settled c.journal.ensures.lines c.in-Err.fault c.in-Err.ensures.refused) c.refuse_question.ensures refl
