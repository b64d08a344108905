use Rattle.std.proofs.Common.{sym, subst}
use Rattle.std.proofs.lemmas.Result.{err_from_is_err_and}
use Rattle.book_refusals.specs.declared.fault.BookFault.{BookFault}
use Rattle.book.specs.BookView.{book_of}
use Rattle.book.specs.Calls.{strange, no_room}
use Rattle.book.specs.TurnFaults.{TellsCommit}
use Rattle.book.proofs.Freshness.{stale_commit}
use Rattle.book.proofs.book.Book.enter_turn.Goals as goal

pub returns-in_err-check_known-clause-err : goal.returns-in_err-check_known-clause-err
returns-in_err-check_known-clause-err c =
    let b = book_of c.args.self.now in
    let p = err_from_is_err_and c.from_residual.result c.from_residual.ensures.1 in
    rw (p.1, p.2) (subst (λ (f : BookFault). TellsCommit f b c.args.ran.now) (sym c.in_err-check_known.ensures.err.0) (strange c.in_err-check_known.ensures.err.1))

pub returns-in_err-way-clause-err : goal.returns-in_err-way-clause-err
returns-in_err-way-clause-err c =
    let b = book_of c.args.self.now in
    let p = err_from_is_err_and c.from_residual-in_err-way.result c.from_residual-in_err-way.ensures.1 in
    rw (p.1, p.2) (stale_commit _ b c.args.ran.now c.in_ok-check_known.ensures.ok c.in_err-way.ensures.err)

pub returns-in_err-check_room-clause-err : goal.returns-in_err-check_room-clause-err
returns-in_err-check_room-clause-err c =
    let b = book_of c.args.self.now in
    let p = err_from_is_err_and c.from_residual-in_err-check_room.result c.from_residual-in_err-check_room.ensures.1 in
    rw (p.1, p.2) (subst (λ (f : BookFault). TellsCommit f b c.args.ran.now) (sym c.in_err-check_room.ensures.err.0) (no_room c.in_ok-check_known.ensures.ok c.in_ok-way.ensures.ok c.in_err-check_room.ensures.err.1))
