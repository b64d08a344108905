use Rattle.book.specs.BookView.{book_of}
use Rattle.book.specs.Entered.{entered_in}
use Rattle.bench_tests.proofs.overlaps.overlap_now.Given as goal

abbrev pub ghosts-overlap-L-Ledger : goal.ghosts-overlap-L-Ledger
ghosts-overlap-L-Ledger g a = record { name = a.blank.name; parts = a.blank.parts }

abbrev pub ghosts-overlap-L-Opening : goal.ghosts-overlap-L-Opening
ghosts-overlap-L-Opening g a = record { table = a.begun.table; began = entered_in (book_of a.begun.book).journal; before = a.begun.before; seats = a.blank.parts }
