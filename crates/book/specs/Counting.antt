-- How many times a book's calls exchange a cell with a record, as the store counts it.
use Rattle.std.specs.Prelude.{ℕ, List, map, filter, drop, length, sum}
use Rattle.ids.specs.declared.names.EventName.{EventName}
use Rattle.world_cells.specs.View.{RisesBy}
use Rattle.journal.specs.Lines.{Line}
use Rattle.causality.specs.Selections.{chosen}
use Rattle.book.specs.BookView.{book_of, swaps_of}
use Rattle.book.specs.declared.book.Book.{Book}

-- how many cells these lines wrote, each line for itself
abbrev pub written_in : List Line → ℕ
written_in lines = sum (map (λ l. length l.entry.foot.writes) lines)

-- the lines that a book has behind all those of another
abbrev pub lines_behind : Book → Book → List Line
lines_behind old now = drop (length (book_of old).journal) (book_of now).journal

-- one exchange was made for each cell that the new lines wrote
abbrev pub CountsNew : Book → Book → Type 0
CountsNew old now = RisesBy (written_in (lines_behind old now)) (swaps_of old) (swaps_of now)

-- one exchange was made for each cell that the lines of these events wrote
abbrev pub CountsChosen : List EventName → Book → Book → Type 0
CountsChosen names old now = RisesBy (written_in (filter (chosen names) (book_of old).journal)) (swaps_of old) (swaps_of now)
