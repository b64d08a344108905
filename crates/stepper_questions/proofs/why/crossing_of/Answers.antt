use Rattle.std.proofs.Common.{◌∙◌, Some, sym, ap}
use Rattle.journal.specs.Items.{item_of}
use Rattle.journal.specs.Journals.{items_of}
use Rattle.stepper_questions.proofs.Linking.{crossing_is, crossing_none}
use Rattle.stepper_questions.proofs.why.crossing_of.Goals as goal

pub returns-in-Some : goal.returns-in-Some
returns-in-Some c =
    crossing_is (items_of c.args.journal) c.requires.journal c.args.from c.args.to (item_of c.open_entry-earlier.result.now) (item_of c.open_entry-later.result.now) c.open_entry-earlier.ensures c.open_entry-later.ensures
    c.in_ok-others.others c.in_ok-others.ensures.ordered c.in_ok-others.ensures.seen c.in_ok-mine.mine c.in_ok-mine.ensures.seen _ (sym c.in-Some.ensures ∙ ap Some (sym c.in_ok-share-in-Some.ensures))

pub returns : goal.returns
returns c =
    crossing_none (items_of c.args.journal) c.requires.journal c.args.from c.args.to (item_of c.open_entry-earlier.result.now) (item_of c.open_entry-later.result.now) c.open_entry-earlier.ensures c.open_entry-later.ensures
    c.in_ok-others.others c.in_ok-others.ensures.ordered c.in_ok-others.ensures.seen c.in_ok-mine.mine c.in_ok-mine.ensures.seen (sym c.in-None.ensures)
