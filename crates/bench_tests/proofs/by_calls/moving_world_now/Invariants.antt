use Rattle.book.specs.BookView.{book_of}
use Rattle.book.specs.Entered.{entered_in}
use Rattle.bench_tests.proofs.by_calls.moving_world_now.Given as goal

abbrev pub ghosts-moving_world-L-Ledger : goal.ghosts-moving_world-L-Ledger
ghosts-moving_world-L-Ledger g a = record { name = a.blank.name; parts = a.blank.parts }

abbrev pub ghosts-moving_world-L-Opening : goal.ghosts-moving_world-L-Opening
ghosts-moving_world-L-Opening g a = record { table = a.begun.table; began = entered_in (book_of a.begun.book).journal; before = a.begun.before; seats = a.blank.parts }
