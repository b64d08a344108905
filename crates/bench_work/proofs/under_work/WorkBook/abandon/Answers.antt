use Rattle.book.specs.BookView.{book_of}
use Rattle.bench_work.proofs.Working.{shop_abandoned, if_ok, if_err}
use Rattle.bench_work.proofs.under_work.WorkBook.abandon.Goals as goal

pub invariant_of-self : goal.invariant_of-self
invariant_of-self g c =
    shop_abandoned _ _ _ _ _ _ _ _ _ (book_of c.self.inside.shared.book) (book_of c.author.new.self.book) c.self.invariant c.args.number c.args.seat.now.number c.author.result
    (if_ok c.author.result (λ o h. h.0) c.author.ensures.ok) (if_err c.author.result (λ f h. h.2) c.author.ensures.err)
