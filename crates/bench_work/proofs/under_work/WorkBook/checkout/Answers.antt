use Rattle.std.proofs.Common.{◌≡◌, ◌+◌, ◌-◌, ◌≤◌, false, sym, ap, ◌∙◌, subst, arith}
use Rattle.turn.specs.declared.ticket.Task.{Task}
use Rattle.book.specs.BookView.{book_of}
use Rattle.bench.specs.Author.{Picks}
use Rattle.bench_work.specs.Workshop.{IsWorkshop}
use Rattle.bench.specs.declared.pick.Pick.{Pick}
use Rattle.bench.specs.declared.pick.Pick.TheVariants as pick
use Rattle.bench_work.proofs.Working.{shop_picked_moved, shop_picked_turn, checked_out_work, if_ok, if_err}
use Rattle.bench_work.proofs.under_work.WorkBook.checkout.Goals as goal

pub invariant_of-self-in-Moved : goal.invariant_of-self-in-Moved
invariant_of-self-in-Moved g c =
    let old = book_of c.self.inside.shared.book in
    let now = book_of c.checkout.new.self.book in
    let budget = c.self.inside.shared.budget in
    let seated = c.checkout.ensures.seated in
    let picks = subst (λ (p : Pick). Picks budget c.args.seat.now.number p old now) c.in-Moved.is c.in_ok-pick.ensures.ok.0 in
    shop_picked_moved _ _ _ _ _ _ _ _ _ old now c.self.invariant budget c.args.seat.now.number seated.0 seated.1 c.in-Moved.field-0 picks

pub first_lent-self-inside-requires : goal.first_lent-self-inside-requires
first_lent-self-inside-requires g c =
    let old = book_of c.self.inside.shared.book in
    let now = book_of c.checkout.new.self.book in
    let budget = c.self.inside.shared.budget in
    let picks = subst (λ (p : Pick). Picks budget c.args.seat.now.number p old now) c.in-Turn.is c.in_ok-pick.ensures.ok.0 in
    let number = ap (λ (o : Task). o.event.0) c.carried.ensures ∙ picks.2.named in
    let drawn = c.self.invariant.drawn in
    (c.self.invariant.ordered, omega (arith, number, drawn))

pub invariant_of-self-in-Turn : goal.invariant_of-self-in-Turn
invariant_of-self-in-Turn g c =
    let l = g.L.Opening in
    let s = g.L.Shift in
    let i = c.self.inside in
    let old = book_of i.shared.book in
    let now = book_of c.checkout.new.self.book in
    let t = c.in-Turn.ticket in
    let seated = c.checkout.ensures.seated in
    let picks = subst (λ (p : Pick). Picks i.shared.budget c.args.seat.now.number p old now) c.in-Turn.is c.in_ok-pick.ensures.ok.0 in
    let some = c.if-self-eq0.false in
    let low = c.first_lent-self-inside.ensures.low in
    let number = ap (λ (o : Task). o.event.0) c.carried.ensures ∙ picks.2.named in
    let one_left : i.left ≡ (i.left - 1) + 1 = omega (arith, some) in
    let first : c.first_lent-self-inside.result ≤ old.next = omega (arith, low, number) in
    subst (λ (o : Task). IsWorkshop l.before l.seats s.most s.book (i.left - 1) i.given c.first_lent-self-inside.result (o.event.0 + 1) false now) (sym c.carried.ensures)
    (shop_picked_turn _ _ _ _ _ _ _ _ _ old now c.self.invariant i.shared.budget c.args.seat.now.number seated.0 seated.1 t picks (i.left - 1) c.first_lent-self-inside.result one_left first c.first_lent-self-inside.ensures.covers)

pub returns-clause-work : goal.returns-clause-work
returns-clause-work g c =
    checked_out_work c.checkout.result c.args.seat.now c.checkout.new.seat (if_ok c.checkout.result (λ p h. h.1) c.checkout.ensures.ok) (if_err c.checkout.result (λ f h. h.1) c.checkout.ensures.err)
