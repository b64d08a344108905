use Rattle.std.proofs.Common.{All, sym, subst}
use Rattle.book.specs.BookView.{book_of}
use Rattle.book.specs.declared.book.Book.{Book}
use Rattle.bench.specs.SharedBook.{Answers, Held}
use Rattle.bench.proofs.Bench.close.Goals as goal

pub returns-clause-seats : goal.returns-clause-seats
returns-clause-seats g c = subst (λ (b : Book). All (λ (s : Held). Answers s.number s.deeds (book_of b)) c.args.seats.items) (sym c.close.ensures.book) c.close.ensures.seats
