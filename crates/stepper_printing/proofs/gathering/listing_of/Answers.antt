use Rattle.std.proofs.Common.{◌≡◌, ◌+◌, ◌++◌, ◌∙◌, length, drop, sym, ap, map}
use Rattle.journal.specs.Items.{item_of}
use Rattle.journal.specs.Journals.{items_of}
use Rattle.journal.specs.Lines.{line_of, lines_of}
use Rattle.stepper_printing.specs.Listing.{born, base_text, entry_lines}
use Rattle.stepper_printing.specs.Show.{name_of}
use Rattle.stepper_printing.proofs.EventNames.{lines_left}
use Rattle.stepper_printing.proofs.gathering.listing_of.Goals as goal

pub returns : goal.returns
returns c =
    let j = c.args.journal in
    let items = items_of j in
    let n = length j.settled.now in
    let names = name_of c.in_ok-vats.vats.entries in
    let same : names ≡ born (lines_of items) = λ i v. c.in_ok-vats.ensures v i in
    ap (λ ls. base_text n ++ entry_lines names (n + 1) ls) (c.in_ok-rows.ensures ∙ sym (lines_left (line_of items) j.settled.now (map item_of j.entries.now)))
    ∙ ap (λ ns. base_text n ++ entry_lines ns (n + 1) (drop n (lines_of items))) same
