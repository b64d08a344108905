use Rattle.std.proofs.Common.{ℕ, true, sym, subst}
use Rattle.book.specs.Books.{Book}
use Rattle.bench_work.specs.Workshop.{IsWorkshop}
use Rattle.bench_work.proofs.Working.{shop_begins}
use Rattle.bench_work.proofs.under_work.WorkBook.new.Goals as goal

pub invariant_of-result : goal.invariant_of-result
invariant_of-result g c =
    let r = c.requires in
    let l = g.L.Opening in
    let s = g.L.Shift in
    let P : ℕ × Book → Type 0 = λ p. IsWorkshop l.before l.seats s.most s.book p.0 0 0 0 true p.1 in
    subst P (λ i. (sym r.turns i, sym r.book.0 i)) (shop_begins l.before l.seats s.most s.book r.book.1)
