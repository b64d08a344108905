use Rattle.std.proofs.Common.{refl}
use Rattle.book.specs.BookView.{book_of}
use Rattle.stepper.specs.Replies.{learn_without_memory}
use Rattle.stepper.proofs.Answered.{accepts, refuses, learn_done, learn_fails}
use Rattle.stepper.proofs.engine.Engine.learn.Goals as goal

pub returns-in_default : goal.returns-in_default
returns-in_default g c = refuses (learn_without_memory) c.refuse_call.ensures refl

pub returns-in-Ok-learn_named : goal.returns-in-Ok-learn_named
returns-in-Ok-learn_named g c = accepts (learn_done c.args.self.now.limits (book_of c.args.self.now.book) c.in-Ok.ensures c.in-Ok-learn_named.ensures.ok) c.put_done.ensures refl refl

pub returns : goal.returns
returns g c = refuses (learn_fails c.args.self.now.limits (book_of c.args.self.now.book) c.in-Err.fault c.in-Ok.ensures c.in-Err.ensures.err c.in-Err.ensures.unchanged) c.refuse_call-in-Err.ensures refl
