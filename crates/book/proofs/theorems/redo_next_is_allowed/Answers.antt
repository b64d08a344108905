use Rattle.causality.proofs.Telling.{journal_tells}
use Rattle.undo.specs.CoreView.{items_of}
use Rattle.desk.specs.DeskView.{out_of}
use Rattle.book.specs.BookView.{book_of}
use Rattle.book.proofs.Again.{may_redo}
use Rattle.book.proofs.Choosing.{stands_journal}
use Rattle.book.proofs.Good.{stands_good}
use Rattle.book.proofs.theorems.redo_next_is_allowed.Goals as goal

pub returns : goal.returns
returns c = λ names others between ok undoes same there.
    let b = c.args.book.now in
    let tells = journal_tells (items_of b.core) (stands_journal b.core b.next (out_of b.desk) b.stands) in
    may_redo names others (book_of b) between tells (stands_good b.core b.next (out_of b.desk) b.stands b.within).sound ok undoes same there
