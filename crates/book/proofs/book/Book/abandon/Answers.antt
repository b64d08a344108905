use Rattle.std.proofs.Common.{◌∙◌, sym, subst}
use Rattle.desk.specs.DeskView.{out_of}
use Rattle.book.specs.BookView.{book_of}
use Rattle.book.specs.Standing.{Stands}
use Rattle.book.proofs.TicketsOut.{stands_without, not_out}
use Rattle.book.proofs.book.Book.abandon.Goals as goal

pub invariant_of-self : goal.invariant_of-self
invariant_of-self c =
    let b = c.args.self.now in
    record { in_range = b.in_range; stands = subst (Stands b.core b.next) (sym c.remove.ensures.rest) (stands_without b.core b.next (out_of b.desk) c.args.number b.stands); within = b.within; noted = b.noted }

pub returns-else-remove-clause-unchanged : goal.returns-else-remove-clause-unchanged
returns-else-remove-clause-unchanged c =
    let b = book_of c.args.self.now in
    let rest = c.remove.ensures.rest ∙ not_out c.args.number b.out (sym c.remove.ensures.out ∙ c.if-remove.false) in
    λ i. record b { out = rest i }
