use Rattle.std.proofs.Common.{◌≡◌, ◌+◌, ◌-◌, ◌<◌, ◌∙◌, Some, length, map, get_or, slice_get, ap, arith}
use Rattle.std.proofs.lemmas.List.{length-append, length-map}
use Rattle.journal.specs.Items.{item_of, lasts_of}
use Rattle.journal.specs.Journals.{items_of, settled_item}
use Rattle.journal.specs.Lines.{last_among, writer_of}
use Rattle.journal.proofs.Settling.{item_before, item_behind, item_there, settled_writer, one_there}
use Rattle.journal.proofs.journal.Journal.writer_at.Goals as goal

pub returns-then-place-self : goal.returns-then-place-self
returns-then-place-self c = λ i at.
    let ss = c.args.self.settled.now in
    let k = c.args.key.now in
    let s = get_or ss c.args.place c.index-self-place.result in
    let here : slice_get (items_of c.args.self) c.args.place ≡ Some (settled_item s) = item_before ss (map item_of c.args.self.entries.now) c.args.place c.index-self-place.result c.if-place-self.true in
    c.writer_among.ensures ∙ ap (λ ts. last_among (lasts_of ts) k) c.deref.ensures.value
    ∙ settled_writer s k (c.requires.wrote (settled_item s) (item_there ss c.args.place c.index-self-place.result c.if-place-self.true))
    ∙ ap (λ j. writer_of j k) (one_there (items_of c.args.self) c.args.place (settled_item s) i here at)

pub returns : goal.returns
returns c = λ i at.
    let ss = c.args.self.settled.now in
    let xs = c.args.self.entries.now in
    let k = c.args.key.now in
    let all = length-append (map settled_item ss) (map item_of xs) in
    let settled = length-map ss settled_item in
    let entries = length-map xs item_of in
    let p : c.args.place ≡ length ss + (c.args.place - length ss) = omega (arith, c.if-place-self.false) in
    let there : c.args.place - length ss < length xs = omega (arith, c.if-place-self.false, c.requires.there, all, settled, entries) in
    let x = get_or xs (c.args.place - length ss) c.index-self-place-2.result in
    let here : slice_get (items_of c.args.self) c.args.place ≡ Some (item_of x) = item_behind ss xs c.args.place (c.args.place - length ss) c.index-self-place-2.result p there in
    c.writer_among-2.ensures ∙ ap (λ ts. last_among (lasts_of ts) k) c.deref-2.ensures.value
    ∙ ap (λ j. writer_of j k) (one_there (items_of c.args.self) c.args.place (item_of x) i here at)
