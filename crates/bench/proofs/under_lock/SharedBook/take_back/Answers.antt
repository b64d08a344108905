use Rattle.std.proofs.Common.{refl, rules}
use Rattle.book.specs.BookView.{book_of}
use Rattle.bench.proofs.Agrees.{rests_same, shared_rested, counted_same, few_events}
use Rattle.bench.proofs.Moves.{journal_within}
use Rattle.bench.proofs.under_lock.SharedBook.take_back.Goals as goal

pub note-requires-clause-room : goal.note-requires-clause-room
note-requires-clause-room g c = λ at. few_events _ _ _ _ _ (book_of c.self.inside.book) _ c.self.invariant.2 (journal_within c.self.inside.book) at

pub invariant_of-self : goal.invariant_of-self
invariant_of-self g c =
    let i = c.self.invariant in
    let n = c.note.ensures in
    let b = book_of c.self.inside.book in
    let rests = rests_same b b refl in
    (n.keeper.0, i.1, shared_rested _ _ _ _ _ _ b b _ i.2 n.agreed.1 rests refl n.keeper.1, counted_same _ _ _ b b i.3 (search rules) rests, i.4, i.5, i.6)
