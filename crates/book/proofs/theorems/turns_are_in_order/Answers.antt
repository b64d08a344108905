use Rattle.desk.specs.DeskView.{out_of}
use Rattle.book.specs.BookView.{book_of}
use Rattle.book.proofs.Good.{stands_good}
use Rattle.book.proofs.Ordered.{good_in_order}
use Rattle.book.proofs.theorems.turns_are_in_order.Goals as goal

pub returns : goal.returns
returns c =
    let b = c.args.book.now in
    good_in_order (book_of b) (stands_good b.core b.next (out_of b.desk) b.stands b.within)
