-- What is told of an event, from what the program has of it.
use Rattle.std.specs.Prelude.{ℕ, List, ◌++◌}
use Rattle.stepper_printing.specs.ListingView.{listed_text}
use Rattle.stepper_questions.specs.Events.{told_lines}
use Rattle.stepper_questions.specs.TouchedView.{told_entries}
use Rattle.stepper_questions.specs.declared.events.ToldEvent.{ToldEvent}

abbrev pub told_event_text : ToldEvent → List ℕ
told_event_text t = listed_text t.line ++ told_lines (told_entries t.cells.entries)
