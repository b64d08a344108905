use Rattle.book.specs.BookView.{book_of}
use Rattle.book.specs.Entered.{entered_in}
use Rattle.bench_work.proofs.once.work_once.Given as goal

abbrev pub ghosts-work_on-L-Ledger : goal.ghosts-work_on-L-Ledger
ghosts-work_on-L-Ledger g a = record { name = a.blank.name; parts = a.blank.parts }

abbrev pub ghosts-work_on-L-Opening : goal.ghosts-work_on-L-Opening
ghosts-work_on-L-Opening g a = record { table = a.begun.table; began = entered_in (book_of a.begun.book).journal; before = a.begun.before; seats = a.blank.parts }

abbrev pub ghosts-work_on-L-Shift : goal.ghosts-work_on-L-Shift
ghosts-work_on-L-Shift g a = record { book = book_of a.begun.book; most = a.turns }
