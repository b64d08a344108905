use Rattle.std.proofs.Common.{◌∙◌, rules}
use Rattle.book.specs.BookView.{book_of}
use Rattle.bench.proofs.Agrees.{one_more}
use Rattle.bench.proofs.under_lock.SharedBook.seat.Goals as goal

pub invariant_of-self : goal.invariant_of-self
invariant_of-self g c =
    let i = c.self.invariant in
    let a = c.add-token.ensures.keeper in
    (a.0 ∙ i.0, i.1, one_more _ _ _ _ _ _ (book_of c.self.inside.book) i.2 (search rules) a.1, i.3, search rules, search rules, search rules)
