use Rattle.desk.specs.DeskView.{out_of}
use Rattle.book.proofs.TicketsOut.{stands_apart}
use Rattle.book.proofs.theorems.tickets_are_apart.Goals as goal

pub returns : goal.returns
returns c =
    let b = c.args.book.now in
    stands_apart b.core b.next (out_of b.desk) b.stands
