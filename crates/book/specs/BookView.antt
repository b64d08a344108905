-- What the program's book stands for.
use Rattle.std.specs.Prelude.{ℕ}
use Rattle.history.specs.Records.{contents}
use Rattle.world_cells.specs.Theory.{cells}
use Rattle.journal.specs.Lines.{lines_of}
use Rattle.undo.specs.CoreView.{items_of, settled_of, state_of}
use Rattle.undo.specs.CoreView as core
use Rattle.desk.specs.DeskView.{out_of}
use Rattle.book.specs.Books as model
use Rattle.book.specs.declared.book.Book.{Book}

abbrev pub book_of : Book → model.Book
book_of b = record { world = contents cells (state_of b.core); journal = lines_of (items_of b.core); settled = settled_of b.core; next = b.next; out = out_of b.desk }

-- how many times a cell was exchanged with a record, modulo 2^64
abbrev pub swaps_of : Book → ℕ
swaps_of b = core.swaps_of b.core
