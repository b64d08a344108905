use Rattle.book.specs.BookView.{book_of}
use Rattle.book.specs.Entered.{entered_in}
use Rattle.bench_tests.proofs.by_calls.other_books_now.Given as goal

abbrev pub ghosts-other_books-L-Ledger : goal.ghosts-other_books-L-Ledger
ghosts-other_books-L-Ledger g a = record { name = a.blank.name; parts = a.blank.parts }

abbrev pub ghosts-other_books-L-Opening : goal.ghosts-other_books-L-Opening
ghosts-other_books-L-Opening g a = record { table = a.begun.table; began = entered_in (book_of a.begun.book).journal; before = a.begun.before; seats = a.blank.parts }
