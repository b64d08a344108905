use Rattle.std.proofs.Common.{◌≡◌, ap, subst, rules}
use Rattle.desk.specs.Desks.{without}
use Rattle.book.specs.Books.{Book}
use Rattle.book.specs.BookView.{book_of}
use Rattle.bench.specs.SharedBookView.{SharedView}
use Rattle.bench.proofs.Agrees.{rests_same, shared_closed, counted_same, few_events}
use Rattle.bench.proofs.Moves.{let_go, journal_within}
use Rattle.bench.proofs.under_lock.SharedBook.close_ticket.Goals as goal

pub note-requires-clause-room : goal.note-requires-clause-room
note-requires-clause-room g c = λ at. few_events _ _ _ _ _ (book_of c.self.inside.book) _ c.self.invariant.2 (journal_within c.self.inside.book) at

pub invariant_of-self : goal.invariant_of-self
invariant_of-self g c =
    let i = c.self.invariant in
    let n = c.note.ensures in
    let old = book_of c.self.inside.book in
    let now = book_of c.abandon.new.self in
    let is = let_go c.abandon.result c.args.number old now c.abandon.ensures.gone c.abandon.ensures.unchanged c.abandon.ensures.err in
    let rests = rests_same old now (ap (λ (b : Book). b.journal) is) in
    (n.keeper.0, i.1, shared_closed _ _ _ _ _ _ old now _ i.2 n.agreed.1 rests c.args.number (ap (λ (b : Book). b.out) is) n.keeper.1, counted_same _ _ _ old now i.3 (search rules) rests, i.4, i.5, i.6)

pub returns-clause-gone : goal.returns-clause-gone
returns-clause-gone g c =
    let old = book_of c.self.inside.book in
    let now = book_of c.abandon.new.self in
    let is = let_go c.abandon.result c.args.number old now c.abandon.ensures.gone c.abandon.ensures.unchanged c.abandon.ensures.err in
    subst (λ (d : SharedView). now ≡ record (book_of d.book) { out = without c.args.number (book_of d.book).out }) c.self.view_is is
