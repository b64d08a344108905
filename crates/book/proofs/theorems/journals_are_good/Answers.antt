use Rattle.desk.specs.DeskView.{out_of}
use Rattle.book.proofs.Good.{stands_good}
use Rattle.book.proofs.theorems.journals_are_good.Goals as goal

pub returns : goal.returns
returns c =
    let b = c.args.book.now in
    stands_good b.core b.next (out_of b.desk) b.stands b.within
