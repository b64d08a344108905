use Rattle.std.proofs.Common.{refl}
use Rattle.book.specs.BookView.{book_of}
use Rattle.stepper.specs.Replies.{journal_without_memory}
use Rattle.stepper.proofs.Answered.{accepts, refuses, listed_as}
use Rattle.stepper.proofs.engine.Engine.journal.Goals as goal

pub returns-in-Ok : goal.returns-in-Ok
returns-in-Ok g c = accepts (listed_as c.args.self.now.limits (book_of c.args.self.now.book) c.journal.ensures.settled c.journal.ensures.lines c.in-Ok.ensures) c.put_journal.ensures refl refl

pub returns-in-Err : goal.returns-in-Err
returns-in-Err g c = refuses journal_without_memory c.refuse_call.ensures refl
