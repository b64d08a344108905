use Rattle.std.proofs.Common.{refl}
use Rattle.book.specs.BookView.{book_of}
use Rattle.stepper_commands.specs.Words.{words_in}
use Rattle.stepper.specs.Engine.{Happens}
use Rattle.stepper.specs.Replies.{AnswersBirth}
use Rattle.stepper.proofs.Answered.{refuses}
use Rattle.stepper.proofs.Scripts.{by_held, faulty_script}
use Rattle.stepper.proofs.engine.Engine.birth.Goals as goal

pub returns-in-Ok : goal.returns-in-Ok
returns-in-Ok g c = λ script is.
    by_held (λ z. Happens g.W.Write.contents c.args.self.now c.birth_held.new.self c.args.out.now c.birth_held.new.out (λ b r s d. AnswersBirth b c.args.name.now (words_in c.args.earlier.now) z r s d)) c.args.script.now
    c.in-Ok.held script c.in-Ok.is is c.birth_held.ensures

pub returns-in-Err : goal.returns-in-Err
returns-in-Err g c = λ script is. refuses (faulty_script (book_of c.args.self.now.book) c.args.name.now (words_in c.args.earlier.now) c.args.script.now c.in-Err.fault script c.in-Err.is is) c.refuse_line.ensures refl
