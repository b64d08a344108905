use Rattle.std.proofs.Common.{◌≡◌, ◌+◌, ◌-◌, ◌<◌, length, map, arith}
use Rattle.std.proofs.lemmas.List.{length-append, length-map}
use Rattle.journal.specs.Items.{item_of}
use Rattle.journal.specs.Journals.{settled_item}
use Rattle.journal.proofs.Settling.{name_before, name_behind}
use Rattle.journal.proofs.journal.Journal.name_at.Goals as goal

pub returns-then-place-self : goal.returns-then-place-self
returns-then-place-self c = name_before c.args.self.settled.now (map item_of c.args.self.entries.now) c.args.place c.index-self-place.result c.if-place-self.true

pub returns : goal.returns
returns c =
    let ss = c.args.self.settled.now in
    let xs = c.args.self.entries.now in
    let all = length-append (map settled_item ss) (map item_of xs) in
    let settled = length-map ss settled_item in
    let entries = length-map xs item_of in
    let at : c.args.place ≡ length ss + (c.args.place - length ss) = omega (arith, c.if-place-self.false) in
    let there : c.args.place - length ss < length xs = omega (arith, c.if-place-self.false, c.requires, all, settled, entries) in
    name_behind ss xs c.args.place (c.args.place - length ss) c.index-self-place-2.result at there
