use Rattle.std.proofs.Common.{◌≡◌, drop}
use Rattle.journal.specs.Journals.{items_of}
use Rattle.journal.specs.Lines.{lines_of}
use Rattle.stepper_questions.specs.Refusals.{place_from, place_of}
use Rattle.stepper_questions.proofs.standing.place_of.Given as goal

-- the event stands among the lines that are left
abbrev pub invariant-loop-place : goal.invariant-loop-place
invariant-loop-place l = place_from l.place (drop l.place (lines_of (items_of l.journal))) l.event ≡ place_of (lines_of (items_of l.journal)) l.event
