use Rattle.book.specs.BookView.{book_of}
use Rattle.book.specs.Entered.{entered_in}
use Rattle.bench_tests.proofs.sessions.pipelined_now.Given as goal

abbrev pub ghosts-pipelined-L-Ledger : goal.ghosts-pipelined-L-Ledger
ghosts-pipelined-L-Ledger g a = record { name = a.blank.name; parts = a.blank.parts }

abbrev pub ghosts-pipelined-L-Opening : goal.ghosts-pipelined-L-Opening
ghosts-pipelined-L-Opening g a = record { table = a.begun.table; began = entered_in (book_of a.begun.book).journal; before = a.begun.before; seats = a.blank.parts }
