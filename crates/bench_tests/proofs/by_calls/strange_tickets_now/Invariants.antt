use Rattle.book.specs.BookView.{book_of}
use Rattle.book.specs.Entered.{entered_in}
use Rattle.bench_tests.proofs.by_calls.strange_tickets_now.Given as goal

abbrev pub ghosts-strange_tickets-L-Ledger : goal.ghosts-strange_tickets-L-Ledger
ghosts-strange_tickets-L-Ledger g a = record { name = a.blank.name; parts = a.blank.parts }

abbrev pub ghosts-strange_tickets-L-Opening : goal.ghosts-strange_tickets-L-Opening
ghosts-strange_tickets-L-Opening g a = record { table = a.begun.table; began = entered_in (book_of a.begun.book).journal; before = a.begun.before; seats = a.blank.parts }
