use Rattle.std.proofs.Common.{rules, length}
use Rattle.journal.specs.Journals.{items_of}
use Rattle.journal.specs.Lines.{lines_of}
use Rattle.stepper_questions.proofs.Reasons.{open_within}
use Rattle.stepper_questions.proofs.Standings.{event_open}
use Rattle.stepper_questions.proofs.Wholes.{event_is}
use Rattle.stepper_questions.proofs.events.event_told.Goals as goal

pub offset_bounds-journal-place : goal.offset_bounds-journal-place
offset_bounds-journal-place c =
    let within = open_within c.args.journal c.args.event c.in_ok-place.place c.in_ok-place.ensures in
    search rules

pub bounds-journal-place : goal.bounds-journal-place
bounds-journal-place c = open_within c.args.journal c.args.event c.in_ok-place.place c.in_ok-place.ensures

pub listed_entry-requires-clause-there : goal.listed_entry-requires-clause-there
listed_entry-requires-clause-there c = open_within c.args.journal c.args.event c.in_ok-place.place c.in_ok-place.ensures

pub returns-clause-told : goal.returns-clause-told
returns-clause-told c =
    event_is c.args.journal c.requires c.args.event c.in_ok-place.place c.index-journal-place.result c.in_ok-place.ensures c.in_ok-cells.cells c.in_ok-cells.ensures.ordered c.in_ok-cells.ensures.seen _ c.in_ok-line.ensures

pub returns-clause-open : goal.returns-clause-open
returns-clause-open c = event_open (length c.args.journal.settled.now) (lines_of (items_of c.args.journal)) c.args.event c.in_ok-place.place c.in_ok-place.ensures
