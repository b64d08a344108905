use Rattle.std.proofs.Common.{refl}
use Rattle.book.specs.BookView.{book_of}
use Rattle.stepper.specs.Replies.{birth_without_memory}
use Rattle.stepper.proofs.Answered.{accepts, refuses, birth_done, birth_fails}
use Rattle.stepper.proofs.engine.Engine.birth_program.Goals as goal

pub returns-in_default : goal.returns-in_default
returns-in_default g c = λ text h. refuses (birth_without_memory) c.refuse_call.ensures refl

pub returns-in_default-texts : goal.returns-in_default-texts
returns-in_default-texts g c = λ text h. refuses (birth_without_memory) c.refuse_call-in_default-texts.ensures refl

pub returns-in-Ok-birth : goal.returns-in-Ok-birth
returns-in-Ok-birth g c = λ text h. accepts (birth_done c.args.self.now.limits (book_of c.args.self.now.book) c.in-Ok.ensures c.in-Ok-texts.ensures h c.in-Ok-birth.ensures.ok) c.put_queued.ensures refl refl

pub returns : goal.returns
returns g c = λ text h. refuses (birth_fails c.args.self.now.limits (book_of c.args.self.now.book) c.in-Err.fault c.in-Ok.ensures c.in-Ok-texts.ensures h c.in-Err.ensures.err c.in-Err.ensures.unchanged) c.refuse_call-in-Err.ensures refl
