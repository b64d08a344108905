use Rattle.std.proofs.Common.{◌≡◌, ◌∙◌, ◌+◌, ◌-◌, ◌<◌, Bool, false, length, map, sym, ap, arith}
use Rattle.std.specs.Option.{option_map_or}
use Rattle.std.proofs.lemmas.List.{length-append, length-map}
use Rattle.journal.specs.Items.{Item, item_of, last_of}
use Rattle.journal.specs.Journals.{settled_item}
use Rattle.journal.proofs.Settling.{item_before, item_behind}
use Rattle.causality.specs.Crossing.{hinders}
use Rattle.causality.proofs.crossing.hinders_there.Goals as goal

pub returns-then-there-journal : goal.returns-then-there-journal
returns-then-there-journal c =
    let test : Item → Bool = hinders c.args.names.now (item_of c.args.entry.now) (last_of c.args.cell.now) in
    c.settled_hinders.ensures
    ∙ sym (ap (λ o. option_map_or test o false) (item_before c.args.journal.settled.now (map item_of c.args.journal.entries.now) c.args.there c.index-journal-there.result c.if-there-journal.true))

pub returns : goal.returns
returns c =
    let test : Item → Bool = hinders c.args.names.now (item_of c.args.entry.now) (last_of c.args.cell.now) in
    let ss = c.args.journal.settled.now in
    let xs = c.args.journal.entries.now in
    let all = length-append (map settled_item ss) (map item_of xs) in
    let settled = length-map ss settled_item in
    let entries = length-map xs item_of in
    let at : c.args.there ≡ length ss + (c.args.there - length ss) = omega (arith, c.if-there-journal.false) in
    let there : c.args.there - length ss < length xs = omega (arith, c.if-there-journal.false, c.requires, all, settled, entries) in
    c.hinders.ensures ∙ sym (ap (λ o. option_map_or test o false) (item_behind ss xs c.args.there (c.args.there - length ss) c.index-journal-there-2.result at there))
