use Rattle.std.proofs.Common.{◌+◌, length}
use Rattle.journal.specs.Journals.{items_of}
use Rattle.journal.specs.Lines.{lines_of}
use Rattle.stepper_questions.specs.ChainView.{near_of, Knows}
use Rattle.stepper_questions.proofs.chain.reached.Given as goal

-- what is reached before the next entry is known
abbrev pub invariant-loop-here : goal.invariant-loop-here
invariant-loop-here l = Knows (lines_of (items_of l.journal)) (length l.journal.settled.now + l.from) (length l.journal.settled.now + l.here) (near_of l.known.entries)
