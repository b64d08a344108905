use Rattle.std.proofs.Common.{◌≡◌, ℕ, min, IfOk, IfErr, arith, true, refl, sym, ap, ◌∙◌, subst}
use Rattle.book_refusals.specs.Fault.{work_text}
use Rattle.book.specs.BookView.{book_of}
use Rattle.book.specs.Books as books
use Rattle.book.specs.declared.book.Book.{Book}
use Rattle.stepper_commands.specs.Commands as commands
use Rattle.book_crew.specs.Work.{Worked, RefusesWork}
use Rattle.stepper.specs.Replies.{Answers, refused, worked, work_refused}
use Rattle.stepper.proofs.Answered.{accepts, refuses}
use Rattle.stepper.proofs.engine.Engine.work.Goals as goal

pub returns-in-Ok : goal.returns-in-Ok
returns-in-Ok g c =
    let limits = c.args.self.now.limits in
    let now = book_of c.work-book.result.0 in
    let few = c.min.ensures in
    let workers : c.min.result ≡ min c.args.workers limits.workers = grind (arith, few) in
    let P : ℕ × Book → Type 0 = λ p. Worked p.0 c.args.turns c.in-Ok.turns (book_of p.1) now in
    let did : Worked (min c.args.workers limits.workers) c.args.turns c.in-Ok.turns (book_of c.args.self.now.book) now
    = subst P (λ i. (workers i, c.replace-book.ensures.value i))
    (subst (λ r. IfOk r (λ turns. Worked c.min.result c.args.turns turns (book_of c.replace-book.result) now)) c.in-Ok.is c.work-book.ensures.ok) in
    accepts (worked did) c.put_worked.ensures refl refl

pub returns-in-Err : goal.returns-in-Err
returns-in-Err g c =
    let limits = c.args.self.now.limits in
    let old = book_of c.args.self.now.book in
    let text = refused (work_text c.in-Err.fault) in
    let err = subst (λ r. IfErr r (λ fault. RefusesWork limits.budget fault × (book_of c.work-book.result.0 ≡ book_of c.replace-book.result))) c.in-Err.is c.work-book.ensures.err in
    let same = err.1 ∙ ap (λ (b : Book). book_of b) c.replace-book.ensures.value in
    let allowed : Answers limits old (commands.work c.args.workers c.args.turns) text true (book_of c.work-book.result.0)
    = subst (λ (d : books.Book). Answers limits old (commands.work c.args.workers c.args.turns) text true d) (sym same) (work_refused c.in-Err.fault err.0) in
    refuses allowed c.refuse_work.ensures refl
