use Rattle.book.specs.BookView.{book_of}
use Rattle.std.proofs.Common.{sym, subst}
use Rattle.book_agenda.specs.AgendaView.{NotedIn}
use Rattle.undo.specs.CoreView.{state_of}
use Rattle.book.specs.Books.{Book}
use Rattle.book.proofs.Noting.{noted_some, known_told}
use Rattle.book.proofs.book.Book.known_as.Goals as goal

pub invariant_of-self : goal.invariant_of-self
invariant_of-self c =
    let b = c.agenda.new.self in
    record { in_range = b.in_range; stands = b.stands; within = b.within; noted = noted_some c.in_ok-agenda.agenda (state_of b.core) (subst (λ (k : Book). NotedIn k.world c.in_ok-agenda.agenda) (sym c.in_ok-agenda.ensures.same) c.in_ok-agenda.ensures.noted) }

pub returns-clause-known : goal.returns-clause-known
returns-clause-known c =
    known_told (book_of c.args.self.now) c.in_ok-agenda.agenda c.in_ok-agenda.ensures.noted c.args.vat c.args.event c.args.index c.known_as-found.result c.known_as-found.ensures
