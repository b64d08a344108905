use Rattle.desk.specs.DeskView.{out_of}
use Rattle.book.specs.BookView.{book_of}
use Rattle.book.proofs.Good.{stands_good}
use Rattle.book.proofs.Births.{names_vats_once}
use Rattle.book.proofs.theorems.vats_have_one_name.Goals as goal

pub returns : goal.returns
returns c =
    let b = c.args.book.now in
    names_vats_once (book_of b) (stands_good b.core b.next (out_of b.desk) b.stands b.within)
