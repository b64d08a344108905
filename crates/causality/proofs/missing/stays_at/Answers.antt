use Rattle.std.proofs.Common.{◌≡◌, ◌∙◌, ◌+◌, ◌-◌, ◌<◌, false, length, map, sym, ap, arith}
use Rattle.std.specs.Option.{option_map_or}
use Rattle.std.proofs.lemmas.List.{length-append, length-map}
use Rattle.journal.specs.Items.{item_of}
use Rattle.journal.specs.Journals.{settled_item}
use Rattle.journal.proofs.Settling.{item_behind}
use Rattle.causality.specs.Walks.{stays}
use Rattle.causality.proofs.Overwritten.{settled_stays}
use Rattle.causality.proofs.missing.stays_at.Goals as goal

pub returns-then-place-journal : goal.returns-then-place-journal
returns-then-place-journal c = settled_stays c.args.names.now c.args.journal.settled.now (map item_of c.args.journal.entries.now) c.args.place c.if-place-journal.true

pub returns : goal.returns
returns c =
    let ss = c.args.journal.settled.now in
    let xs = c.args.journal.entries.now in
    let all = length-append (map settled_item ss) (map item_of xs) in
    let settled = length-map ss settled_item in
    let entries = length-map xs item_of in
    let at : c.args.place ≡ length ss + (c.args.place - length ss) = omega (arith, c.if-place-journal.false) in
    let there : c.args.place - length ss < length xs = omega (arith, c.if-place-journal.false, c.requires, all, settled, entries) in
    c.stays.ensures ∙ sym (ap (λ o. option_map_or (stays c.args.names.now) o false) (item_behind ss xs c.args.place (c.args.place - length ss) c.index-journal-place.result at there))
