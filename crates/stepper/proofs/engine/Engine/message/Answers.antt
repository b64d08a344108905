use Rattle.std.proofs.Common.{◌≡◌, refl, sym, subst, rules}
use Rattle.book.specs.BookView.{book_of}
use Rattle.stepper_commands.specs.Commands as commands
use Rattle.stepper.specs.Engine.{Happens}
use Rattle.stepper.specs.Replies.{Answers}
use Rattle.stepper.proofs.Answered.{accepts, refuses}
use Rattle.stepper.proofs.Asked.{message_answered, message_fails}
use Rattle.stepper.proofs.engine.Engine.message.Goals as goal

-- what was told is let go by its kind, and that leaves the engine as it is
pub returns-in-Ok : goal.returns-in-Ok
returns-in-Ok g c =
    let same : c.match-told.self ≡ c.args.self.now = search rules in
    subst (λ e. Happens g.W.Write.contents c.args.self.now e c.args.out.now c.put_told_message.new.out (λ b r s d. Answers c.args.self.now.limits b (commands.message c.args.message) r s d)) (sym same)
    (accepts (message_answered c.args.self.now.limits (book_of c.args.self.now.book) c.world.ensures.same c.in-Ok.ensures.told) c.put_told_message.ensures refl refl)

pub returns-in-Err : goal.returns-in-Err
returns-in-Err g c = refuses (message_fails c.args.self.now.limits (book_of c.args.self.now.book) c.world.ensures.same c.in-Err.fault c.in-Err.ensures.refused) c.refuse_question.ensures refl
