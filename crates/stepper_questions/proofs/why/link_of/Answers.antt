use Rattle.std.proofs.Common.{◌<◌, ◌∙◌, Some, sym, ap, arith}
use Rattle.journal.specs.Items.{item_of}
use Rattle.journal.specs.Journals.{items_of}
use Rattle.causality.proofs.Telling.{journal_tells}
use Rattle.journal.specs.Lines.{lines_of}
use Rattle.stepper_questions.proofs.Linking.{link_is, link_there}
use Rattle.stepper_questions.proofs.Stepping.{step_rises}
use Rattle.stepper_questions.proofs.why.link_of.Goals as goal

pub open_entry-earlier-requires-clause-there : goal.open_entry-earlier-requires-clause-there
open_entry-earlier-requires-clause-there c =
    let items = items_of c.args.journal in
    let lt : c.args.from < c.args.to = step_rises (lines_of items) (journal_tells items c.requires.journal) c.args.from c.args.to c.requires.link.0 c.requires.link.1 in
    omega (arith, c.requires.there)

pub open_entry-later-requires-clause-behind : goal.open_entry-later-requires-clause-behind
open_entry-later-requires-clause-behind c =
    let items = items_of c.args.journal in
    let lt : c.args.from < c.args.to = step_rises (lines_of items) (journal_tells items c.requires.journal) c.args.from c.args.to c.requires.link.0 c.requires.link.1 in
    omega (arith, c.requires.behind)

pub returns : goal.returns
returns c =
    link_is (items_of c.args.journal) c.requires.journal c.args.from c.args.to (item_of c.open_entry-earlier.result.now) (item_of c.open_entry-later.result.now) c.open_entry-earlier.ensures c.open_entry-later.ensures
    c.in_ok-cells.cells c.in_ok-cells.ensures.ordered c.in_ok-cells.ensures.seen _ (sym c.in-Some.ensures ∙ ap Some (sym c.in_ok-share-in-Some.ensures))

pub unreachable-requires : goal.unreachable-requires
unreachable-requires c =
    link_there (items_of c.args.journal) c.requires.journal c.args.from c.args.to (item_of c.open_entry-earlier.result.now) (item_of c.open_entry-later.result.now) c.open_entry-earlier.ensures c.open_entry-later.ensures
    c.in_ok-cells.cells c.in_ok-cells.ensures.ordered c.in_ok-cells.ensures.seen c.requires.link.0 c.requires.link.1 (sym c.in-None.ensures)
