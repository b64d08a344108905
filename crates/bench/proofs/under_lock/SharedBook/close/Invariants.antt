use Rattle.std.proofs.Common.{◌≡◌, All, length, sum_by}
use Rattle.book.specs.BookView.{book_of}
use Rattle.bench.specs.SharedBook.{Answers}
use Rattle.bench.proofs.under_lock.SharedBook.close.Given as goal

abbrev pub invariant-loop-seat : goal.invariant-loop-seat
invariant-loop-seat g l = (l.shared ≡ l.fn.self) × All (λ s. Answers s.number s.deeds (book_of l.fn.self.book)) l.yielded × (l.all.parts ≡ length l.yielded) × (l.all.amount ≡ sum_by (λ s. length s.deeds.events) l.yielded)
