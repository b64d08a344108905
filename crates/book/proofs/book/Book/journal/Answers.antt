use Rattle.std.proofs.Common.{sym, ap, subst}
use Rattle.desk.specs.DeskView.{out_of}
use Rattle.causality.specs.Journals.{IsJournal}
use Rattle.journal.specs.Lines.{lines_of}
use Rattle.book.proofs.Blank.{stands_journal}
use Rattle.book.proofs.book.Book.journal.Goals as goal

pub returns-clause-lines : goal.returns-clause-lines
returns-clause-lines c = ap lines_of c.journal.ensures.items

pub returns-clause-journal : goal.returns-clause-journal
returns-clause-journal c = subst IsJournal (sym c.journal.ensures.items) (stands_journal c.args.self.now.core c.args.self.now.next (out_of c.args.self.now.desk) c.args.self.now.stands)
