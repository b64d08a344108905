use Rattle.std.proofs.Common.{◌+◌, ◌<◌, ◌∷◌, length, get_or, sym, ap, ◌∙◌, arith}
use Rattle.journal.specs.Items.{item_of}
use Rattle.journal.specs.Journals.{items_of}
use Rattle.journal.specs.Lines.{line_of, lines_of}
use Rattle.causality.proofs.Telling.{journal_tells}
use Rattle.stepper_questions.specs.ChainView.{near_of}
use Rattle.stepper_questions.proofs.Knowing.{chain_found, no_chain}
use Rattle.stepper_questions.proofs.Reasons.{line_read}
use Rattle.stepper_questions.proofs.chain.nearest_chain.Goals as goal

pub returns-in-Some : goal.returns-in-Some
returns-in-Some c =
    let j = c.args.journal in
    let x = get_or j.entries.now c.args.to c.index-journal-to.result in
    let f = chain_found (lines_of (items_of j)) (length j.settled.now + c.args.from) (length j.settled.now + c.args.to) _ (near_of c.in_ok-known.known.entries) c.in_ok-known.ensures
    (line_of (items_of j) (item_of x)) (line_read j c.args.to c.index-journal-to.result c.requires.there) (journal_tells (items_of j) c.requires.journal) c.in-Some.end (sym c.in-Some.ensures) in
    (f.0, f.3, c.in_ok-places_back-in-Some.ensures f.0 f.1 f.2 ∙ ap (λ p. p ∷ f.0) f.4)

pub returns : goal.returns
returns c =
    let j = c.args.journal in
    let x = get_or j.entries.now c.args.to c.index-journal-to.result in
    let below : length j.settled.now + c.args.to < length j.settled.now + c.args.to + 1 = omega arith in
    no_chain (lines_of (items_of j)) (length j.settled.now + c.args.from) (length j.settled.now + c.args.to) _ (near_of c.in_ok-known.known.entries) c.in_ok-known.ensures below
    (line_of (items_of j) (item_of x)) (line_read j c.args.to c.index-journal-to.result c.requires.there) (sym c.in-None.ensures)
