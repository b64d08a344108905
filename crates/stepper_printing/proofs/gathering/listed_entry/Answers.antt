use Rattle.std.proofs.Common.{◌≡◌, ◌+◌, ◌∙◌, Some, length, map, slice_get, get_or, ap, ap₂}
use Rattle.journal.specs.Items.{item_of}
use Rattle.journal.specs.Journals.{items_of}
use Rattle.journal.specs.Lines.{line_of, lines_of}
use Rattle.journal.proofs.Settling.{one_there}
use Rattle.causality.proofs.Collecting.{item_at}
use Rattle.stepper_printing.specs.Listing.{born, entry_line}
use Rattle.stepper_printing.specs.Show.{name_of}
use Rattle.stepper_printing.proofs.EventNames.{cause_line}
use Rattle.stepper_printing.proofs.gathering.listed_entry.Goals as goal

pub returns : goal.returns
returns c =
    let j = c.args.journal in
    let items = items_of j in
    let names = name_of c.in_ok-vats.vats.entries in
    let same : names ≡ born (lines_of items) = λ i v. c.in_ok-vats.ensures v i in
    let k = length j.settled.now + c.args.place + 1 in
    let x = item_of (get_or j.entries.now c.args.place c.index-journal-place.result) in
    let at : slice_get (map item_of j.entries.now) c.args.place ≡ Some x = item_at j.entries.now c.args.place c.index-journal-place.result c.requires.there in
    let line = cause_line items x c.in_ok-causes.causes.items (c.in_ok-causes.ensures x at) in λ i there.
    ap (λ l. entry_line names k l) line
    ∙ ap₂ (λ ns i. entry_line ns k (line_of items i)) same (one_there (map item_of j.entries.now) c.args.place x i at there)
