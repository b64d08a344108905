use Rattle.std.proofs.Common.{take}
use Rattle.book.specs.BookView.{book_of}
use Rattle.event.specs.Naming.{Numbers}
use Rattle.book.proofs.book.Book.numbers_of.Given as goal

-- so far
abbrev pub invariant-loop-name : goal.invariant-loop-name
invariant-loop-name l = Numbers (book_of l.self).world (take l.name-index l.names) l.numbers.items
