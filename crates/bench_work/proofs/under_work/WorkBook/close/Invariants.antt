use Rattle.std.proofs.Common.{◌≡◌, ◌≤◌, true, false}
use Rattle.book.specs.BookView.{book_of}
use Rattle.bench_work.specs.Workshop.{IsWorkshop}
use Rattle.bench_work.proofs.under_work.WorkBook.close.Given as goal

-- no ticket of a number before this one is out with a worker; where nothing was done there is no number
abbrev pub invariant-loop-number : goal.invariant-loop-number
invariant-loop-number g l =
    IsWorkshop g.L.Opening.before g.L.Opening.seats g.L.Shift.most g.L.Shift.book 0 l.given l.number l.behind false (book_of l.book)
    × (l.untouched ≡ true → (book_of l.book ≡ g.L.Shift.book) × (l.behind ≤ l.number))
