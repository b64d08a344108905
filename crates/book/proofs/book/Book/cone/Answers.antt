use Rattle.std.proofs.Common.{sym, subst}
use Rattle.causality.specs.Journals.{IsJournal}
use Rattle.desk.specs.DeskView.{out_of}
use Rattle.book.proofs.Choosing.{stands_journal}
use Rattle.book.proofs.book.Book.cone.Goals as goal

pub check_cone-requires : goal.check_cone-requires
check_cone-requires c =
    let b = c.args.self.now in
    subst IsJournal (sym c.journal-journal.ensures.items) (stands_journal b.core b.next (out_of b.desk) b.stands)

pub cone-requires-clause-journal : goal.cone-requires-clause-journal
cone-requires-clause-journal c =
    let b = c.args.self.now in
    subst IsJournal (sym c.journal-journal.ensures.items) (stands_journal b.core b.next (out_of b.desk) b.stands)
