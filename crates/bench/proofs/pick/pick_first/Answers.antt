use Rattle.std.proofs.Common.{◌∙◌, ap, subst, Option, Some}
use Rattle.std.proofs.lemmas.Result.{err_from_is_err_and}
use Rattle.book_agenda.specs.declared.agenda.Step.{Step}
use Rattle.book_agenda.specs.declared.agenda.Step.TheVariants as step
use Rattle.book_refusals.specs.Fault.{Tells}
use Rattle.book.specs.Books.{Book}
use Rattle.book.specs.BookView.{book_of}
use Rattle.book.specs.Calls.{Lends, Makes}
use Rattle.bench.specs.Author.{FirstIn}
use Rattle.bench.proofs.Rooms.{refusal_at, refuses_pick}
use Rattle.bench.proofs.pick.pick_first.Goals as goal

pub returns-in_ok-ticket-in-Turn-clause-ok : goal.returns-in_ok-ticket-in-Turn-clause-ok
returns-in_ok-ticket-in-Turn-clause-ok c =
    let old = book_of c.args.book.now in
    let now = book_of c.checkout.new.self in
    let first = subst (λ (o : Option Step). FirstIn old o) (c.in-Some.is ∙ ap (λ (s : Step). Some s) c.in-Turn.is) c.in_ok-step.ensures.first in
    let lends = subst (λ (b : Book). Lends c.in-Turn.message c.args.budget c.args.seat c.in_ok-ticket-in-Turn.ticket b now) c.next.ensures.same c.in_ok-ticket-in-Turn.ensures.ok.1 in
    (c.in-Turn.message, first, lends)

pub returns-in_ok-event-in-Move-clause-ok : goal.returns-in_ok-event-in-Move-clause-ok
returns-in_ok-event-in-Move-clause-ok c =
    let old = book_of c.args.book.now in
    let now = book_of c.enter.new.self in
    let first = subst (λ (o : Option Step). FirstIn old o) (c.in-Some.is ∙ ap (λ (s : Step). Some s) c.in-Move.is) c.in_ok-step.ensures.first in
    let makes = subst (λ (b : Book). Makes c.in-Move.what c.args.seat c.in_ok-event-in-Move.event b now) c.next.ensures.same c.in_ok-event-in-Move.ensures.ok in
    (c.in-Move.what, first, record { foot = makes.1.0; enters = makes.1.1 })

pub returns-in_err-event-in-Move-clause-err : goal.returns-in_err-event-in-Move-clause-err
returns-in_err-event-in-Move-clause-err c =
    let old = book_of c.args.book.now in
    let s = step.Move c.in-Move.what in
    let fault = c.in_err-event-in-Move.field-0.0 in
    let may = subst (λ (o : Option Step). FirstIn old o) (c.in-Some.is ∙ ap (λ (s : Step). Some s) c.in-Move.is) c.in_ok-step.ensures.first in
    let told = subst (λ (b : Book). Tells fault (refusal_at c.args.budget s b)) c.next.ensures.same c.in_err-event-in-Move.ensures.err in
    let p = err_from_is_err_and c.from_residual-in_err-event-in-Move.result c.from_residual-in_err-event-in-Move.ensures.1 in
    rw (p.1, p.2) (refuses_pick c.args.budget old s fault may told)

pub returns-in_err-ticket-in-Turn-clause-err : goal.returns-in_err-ticket-in-Turn-clause-err
returns-in_err-ticket-in-Turn-clause-err c =
    let old = book_of c.args.book.now in
    let s = step.Turn c.in-Turn.message in
    let fault = c.in_err-ticket-in-Turn.field-0.0 in
    let may = subst (λ (o : Option Step). FirstIn old o) (c.in-Some.is ∙ ap (λ (s : Step). Some s) c.in-Turn.is) c.in_ok-step.ensures.first in
    let told = subst (λ (b : Book). Tells fault (refusal_at c.args.budget s b)) c.next.ensures.same c.in_err-ticket-in-Turn.ensures.err in
    let p = err_from_is_err_and c.from_residual-in_err-ticket-in-Turn.result c.from_residual-in_err-ticket-in-Turn.ensures.1 in
    rw (p.1, p.2) (refuses_pick c.args.budget old s fault may told)
