use Rattle.std.proofs.Common.{refl}
use Rattle.book.specs.BookView.{book_of}
use Rattle.stepper.specs.Replies.{ask_without_memory}
use Rattle.stepper.proofs.Answered.{accepts, refuses, ask_done, ask_fails}
use Rattle.stepper.proofs.engine.Engine.ask_program.Goals as goal

pub returns-in_default : goal.returns-in_default
returns-in_default g c = λ text h. refuses (ask_without_memory) c.refuse_call.ensures refl

pub returns-in-Ok-ask : goal.returns-in-Ok-ask
returns-in-Ok-ask g c = λ text h. accepts (ask_done c.args.self.now.limits (book_of c.args.self.now.book) c.in-Ok.ensures h c.in-Ok-ask.ensures.ok) c.put_queued.ensures refl refl

pub returns : goal.returns
returns g c = λ text h. refuses (ask_fails c.args.self.now.limits (book_of c.args.self.now.book) c.in-Err.fault c.in-Ok.ensures h c.in-Err.ensures.err c.in-Err.ensures.unchanged) c.refuse_call-in-Err.ensures refl
