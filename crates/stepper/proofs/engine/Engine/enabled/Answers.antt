use Rattle.std.proofs.Common.{refl, sym, subst}
use Rattle.book.specs.Books.{Book}
use Rattle.book.specs.BookView.{book_of}
use Rattle.stepper.specs.Replies.{EnabledIn}
use Rattle.stepper.proofs.Answered.{refuses, none_enabled, happens_from}
use Rattle.stepper.proofs.engine.Engine.enabled.Goals as goal

pub returns-in-Ok : goal.returns-in-Ok
returns-in-Ok g c = happens_from c.enabled.ensures.same refl refl
    (c.choose.ensures (subst (λ (b : Book). EnabledIn b c.in-Ok.steps.items) (sym c.enabled.ensures.same) c.in-Ok.ensures.all))

pub returns-in-Err : goal.returns-in-Err
returns-in-Err g c = refuses (none_enabled c.args.self.now.limits (book_of c.args.self.now.book) c.enabled.ensures.same) c.refuse_call.ensures refl
