use Rattle.std.proofs.Common.{refl}
use Rattle.book.specs.BookView.{book_of}
use Rattle.stepper.proofs.Answered.{refuses, birth_not_read}
use Rattle.stepper.proofs.engine.Engine.birth_text.Goals as goal

pub returns-in-Ok : goal.returns-in-Ok
returns-in-Ok g c = c.birth_program.ensures c.args.text.now c.in-Ok.ensures

pub returns-in-Err : goal.returns-in-Err
returns-in-Err g c = refuses (birth_not_read c.args.self.now.limits (book_of c.args.self.now.book) c.args.name.now _ c.args.text.now c.in-Err.fault c.in-Err.ensures) c.refuse_text.ensures refl
