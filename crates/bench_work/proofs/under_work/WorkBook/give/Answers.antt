use Rattle.std.proofs.Common.{◌<◌, ◌≤◌, ◌+◌, sym, subst}
use Rattle.book.specs.BookView.{book_of}
use Rattle.bench_work.proofs.Working.{shop_refused, shop_given, given_back_work, if_ok, if_err}
use Rattle.bench_work.proofs.under_work.WorkBook.give.Goals as goal

pub invariant_of-self : goal.invariant_of-self
invariant_of-self g c =
    shop_refused _ _ _ _ _ _ _ _ _ (book_of c.self.inside.shared.book) (book_of c.give.new.self.book) c.self.invariant c.in_err-event.field-0.0 c.args.ticket.now.carried.event c.in_err-event.ensures.left

pub returns-in_err-event-clause-work : goal.returns-in_err-event-clause-work
returns-in_err-event-clause-work g c =
    given_back_work (λ f. f) c.give.result c.args.ticket.now c.args.seat.now c.give.new.seat (if_ok c.give.result (λ e h. h.3) c.give.ensures.ok) (if_err c.give.result (λ x h. h.0) c.give.ensures.err)

pub invariant_of-self-2 : goal.invariant_of-self-2
invariant_of-self-2 g c =
    let ok = c.in_ok-event.ensures.ok in
    let seated = c.give.ensures.seated in
    let before = g.L.Opening.before in
    let seats = g.L.Opening.seats in
    shop_given _ _ _ _ _ _ _ _ _ (book_of c.self.inside.shared.book) (book_of c.give.new.self.book) c.self.invariant c.args.ticket.now ok.2
    (subst (λ s. before < s) (sym ok.1) seated.0) (subst (λ s. s ≤ before + seats) (sym ok.1) seated.1)

pub returns-clause-work : goal.returns-clause-work
returns-clause-work g c =
    given_back_work (λ f. f) c.give.result c.args.ticket.now c.args.seat.now c.give.new.seat (if_ok c.give.result (λ e h. h.3) c.give.ensures.ok) (if_err c.give.result (λ x h. h.0) c.give.ensures.err)
