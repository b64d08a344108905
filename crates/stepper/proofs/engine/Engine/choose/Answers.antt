use Rattle.std.proofs.Common.{refl}
use Rattle.book.specs.BookView.{book_of}
use Rattle.stepper.specs.Replies.{enabled_without_memory}
use Rattle.stepper.proofs.Answered.{accepts, refuses, all_enabled}
use Rattle.stepper.proofs.engine.Engine.choose.Goals as goal

pub returns-in-Ok : goal.returns-in-Ok
returns-in-Ok g c = λ all. accepts (all_enabled c.args.self.now.limits (book_of c.args.self.now.book) refl c.world.ensures.same refl all c.in-Ok.ensures) c.put_enabled.ensures refl refl

pub returns-in-Err : goal.returns-in-Err
returns-in-Err g c = λ all. refuses enabled_without_memory c.refuse_call.ensures refl
