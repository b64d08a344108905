use Rattle.std.proofs.Common.{◌≡◌, ◌≤◌, true, false, refl, sym, subst, arith}
use Rattle.ids.specs.declared.names.EventName.{EventName}
use Rattle.book.specs.BookView.{book_of}
use Rattle.book.specs.declared.book.Book.{Book}
use Rattle.bench_work.specs.Workshop.{IsWorkshop}
use Rattle.bench.proofs.Moves.{let_go}
use Rattle.bench_work.proofs.Working.{shop_closing, shop_closes, shop_closed}
use Rattle.bench_work.proofs.under_work.WorkBook.close.Goals as goal

pub loop-number-init : goal.loop-number-init
loop-number-init g c =
    let l = g.L.Opening in
    let s = g.L.Shift in
    let i = c.self.inside in
    let h = c.self.invariant in
    let P : Book → Type 0 = λ b. IsWorkshop l.before l.seats s.most s.book 0 i.given i.first i.behind false (book_of b) × (i.untouched ≡ true → (book_of b ≡ s.book) × (i.behind ≤ i.first)) in
    subst P (sym c.into_book-book.ensures)
    (shop_closing l.before l.seats s.most s.book i.left i.given i.first i.behind i.untouched (book_of i.shared.book) h, λ e. ((h.same e).0, let none = (h.same e).1 in omega (arith, none)))

pub loop-number-preserved : goal.loop-number-preserved
loop-number-preserved g c =
    let l = g.L.Opening in
    let s = g.L.Shift in
    let i = c.self.inside in
    let k = c.loop-number.number in
    let n : EventName = record { 0 = k } in
    let old = book_of c.loop-number.book in
    let now = book_of c.abandon.new.self in
    let more = c.loop-number-test.true in
    let gone = let_go c.abandon.result n old now c.abandon.ensures.gone c.abandon.ensures.unchanged c.abandon.ensures.err in
    (shop_closes l.before l.seats s.most s.book i.given k i.behind old now n c.loop-number.invariant.0 refl more gone, λ e. let none = (c.loop-number.invariant.1 e).1 in absurd (omega (arith, none, more)))

pub returns-clause-worked : goal.returns-clause-worked
returns-clause-worked g c =
    let l = g.L.Opening in
    let s = g.L.Shift in
    let i = c.self.inside in
    let none = c.loop-number-test.false in
    shop_closed l.before l.seats s.most s.book i.given c.loop-number.number i.behind (book_of c.loop-number.book) c.loop-number.invariant.0 (omega (arith, none)) c.journals_are_good.ensures
