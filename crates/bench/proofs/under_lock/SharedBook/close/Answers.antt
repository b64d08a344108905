use Rattle.std.proofs.Common.{◌∙◌, subst}
use Rattle.book.specs.BookView.{book_of}
use Rattle.bench.specs.SharedBook.{Answers}
use Rattle.bench.specs.SharedBookView.{SharedView}
use Rattle.bench.proofs.Agrees.{handed_in, parts_in, amount_in}
use Rattle.bench.proofs.under_lock.SharedBook.close.Goals as goal

pub loop-seat-preserved : goal.loop-seat-preserved
loop-seat-preserved g c =
    let i = c.loop-seat.invariant in
    let e = c.take_back.ensures in
    let s = c.in-Some.seat in
    let met = subst (λ (d : SharedView). Answers s.number s.deeds (book_of d.book)) i.0 e.met in
    (e.same ∙ i.0, handed_in (book_of c.args.self.book) c.loop-seat.yielded s i.1 met, parts_in c.loop-seat.yielded s _ _ i.2 e.share.0, amount_in c.loop-seat.yielded s _ _ i.3 e.share.1)
