use Rattle.std.proofs.Common.{ap, sym}
use Rattle.book_refusals.specs.Fault.{fault_text}
use Rattle.stepper_streams.proofs.Giving.{tells_as}
use Rattle.stepper.proofs.words.put_book_fault.Goals as goal

pub returns-in-NotClosed : goal.returns-in-NotClosed
returns-in-NotClosed g c = tells_as g.W.Write.contents (ap fault_text (sym c.in-NotClosed.is)) c.put_about_pair.ensures

pub returns-in-Crossed : goal.returns-in-Crossed
returns-in-Crossed g c = tells_as g.W.Write.contents (ap fault_text (sym c.in-Crossed.is)) c.put_about_pair-in-Crossed.ensures

pub returns-in-CauseMissing : goal.returns-in-CauseMissing
returns-in-CauseMissing g c = tells_as g.W.Write.contents (ap fault_text (sym c.in-CauseMissing.is)) c.put_about_pair-in-CauseMissing.ensures

pub returns-in-BadBudget : goal.returns-in-BadBudget
returns-in-BadBudget g c = tells_as g.W.Write.contents (ap fault_text (sym c.in-BadBudget.is)) c.put-in-BadBudget.ensures
