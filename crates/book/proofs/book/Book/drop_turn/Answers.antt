use Rattle.std.proofs.Common.{sym, subst}
use Rattle.desk.specs.DeskView.{out_of}
use Rattle.book.specs.Standing.{Stands}
use Rattle.book.proofs.TicketsOut.{stands_without}
use Rattle.book.proofs.book.Book.drop_turn.Goals as goal

pub invariant_of-self : goal.invariant_of-self
invariant_of-self g c =
    let b = c.args.self.now in
    record { in_range = b.in_range; stands = subst (Stands b.core b.next) (sym c.remove.ensures.rest) (stands_without b.core b.next (out_of b.desk) c.args.number b.stands); within = b.within; noted = b.noted }
