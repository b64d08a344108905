use Rattle.std.proofs.Common.{◌<◌, drop, length}
use Rattle.journal.specs.Journals.{items_of}
use Rattle.journal.specs.Lines.{lines_of}
use Rattle.stepper_questions.specs.WhyView.{AreLinks}
use Rattle.stepper_questions.proofs.why.links_along.Given as goal

-- the steps of the places from here on are known
abbrev pub invariant-loop-left : goal.invariant-loop-left
invariant-loop-left l = record {
  within : l.left < length l.places;
  known : AreLinks (lines_of (items_of l.journal)) (drop l.left l.places) l.links.items;
}

abbrev pub decreases-loop-left : goal.decreases-loop-left
decreases-loop-left l = l.left
