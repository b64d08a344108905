use Rattle.std.proofs.Common.{refl}
use Rattle.book.specs.BookView.{book_of}
use Rattle.stepper.specs.Replies.{log_without_memory}
use Rattle.stepper.proofs.Answered.{accepts, refuses, vat_logged}
use Rattle.stepper.proofs.engine.Engine.log.Goals as goal

pub returns-in-Ok : goal.returns-in-Ok
returns-in-Ok g c = accepts (vat_logged c.args.self.now.limits (book_of c.args.self.now.book) c.as_str.ensures.value c.in-Ok.ensures) c.put_log.ensures refl refl

pub returns-in-Err : goal.returns-in-Err
returns-in-Err g c = refuses (log_without_memory) c.refuse_call.ensures refl
