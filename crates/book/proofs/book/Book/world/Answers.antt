use Rattle.std.proofs.Common.{ap, sym, subst, ◌∙◌}
use Rattle.history.specs.Records.{State, contents}
use Rattle.world_cells.specs.Theory.{cells}
use Rattle.desk.specs.DeskView.{out_of}
use Rattle.event.specs.Runs.{PlainRun}
use Rattle.book.specs.BookView.{book_of}
use Rattle.book.specs.Calls.{live_events}
use Rattle.book.proofs.Blank.{stands_run, stands_writers}
use Rattle.book.proofs.Settling.{from_base}
use Rattle.book.proofs.book.Book.world.Goals as goal

pub returns-clause-same : goal.returns-clause-same
returns-clause-same c = ap (contents cells) c.world.ensures

pub returns-clause-plain_run : goal.returns-clause-plain_run
returns-clause-plain_run c =
    subst (λ (w : State cells). PlainRun (live_events (book_of c.args.self.now).journal) (contents cells w)) (sym c.world.ensures)
    (stands_run c.args.self.now.core c.args.self.now.next (out_of c.args.self.now.desk) c.args.self.now.stands)

pub returns-clause-last_writers : goal.returns-clause-last_writers
returns-clause-last_writers c = λ k.
    ap (λ (w : State cells). (w k).1) c.world.ensures
    ∙ stands_writers c.args.self.now.core c.args.self.now.next (out_of c.args.self.now.desk) c.args.self.now.stands k

pub returns-clause-from_base : goal.returns-clause-from_base
returns-clause-from_base c =
    let b = c.args.self.now in
    from_base (book_of b) (stands_run b.core b.next (out_of b.desk) b.stands)
