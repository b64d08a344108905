-- A workshop may be shared by threads; and what it says of its book it says of the book that work began with.
use denote.Param.Send.{sendable}
use Rattle.std.proofs.Common.{ℕ, IfErr, sym, ◌∙◌, subst}
use Rattle.std.proofs.Crossing.{crosses}
use Rattle.std.proofs.sync.Mutex.TheSendSync as locks
use Rattle.crossbeam_utils.proofs.atomic.seq_cell.Wide.TheSendSync as cells
use Rattle.book.specs.Books.{Book}
use Rattle.book.specs.BookView.{book_of}
use Rattle.book_crew.specs.Work.{StopsWork, Worked}
use Rattle.bench_work.proofs.crossing.Shared.{shared_send}
use Rattle.bench_work.proofs.once.work_on.Goals as goal

pub work_at-worked-requires-sync-P : goal.work_at-worked-requires-sync-P
work_at-worked-requires-sync-P g c κs within = search (shared_send, locks.the_sync, cells.the_field_sync, sendable, crosses) depth 40

pub returns-in-Err-true-clause-err : goal.returns-in-Err-true-clause-err
returns-in-Err-true-clause-err g c =
    (subst (λ r. IfErr r (λ f. StopsWork f)) c.in-Err-true.is-0 c.work_at-worked.ensures.err, c.close-book.ensures.untouched c.in-Err-true.is-1 ∙ sym c.requires.book.1)

pub returns-in_default-clause-ok : goal.returns-in_default-clause-ok
returns-in_default-clause-ok g c =
    let s = g.L.Shift in
    let r = c.requires in
    let now = book_of c.close-book.result.0 in
    let P : (ℕ × ℕ) × Book → Type 0 = λ p. Worked p.0.0 p.0.1 c.close-book.result.1 p.1 now in
    subst P (λ i. ((sym r.most.0 i, sym r.most.1 i), sym r.book.1 i)) c.close-book.ensures.worked
