use Rattle.std.proofs.Common.{◌≡◌, ◌≤◌, ◌+◌, ◌∷◌, ◌++◌, ◌∙◌, length, ap, sym, drop, map, arith}
use Rattle.std.proofs.lemmas.Grind.{common_steps}
use Rattle.std.proofs.lemmas.List.{drop_all}
use Rattle.journal.specs.Items.{item_of}
use Rattle.journal.specs.Journals.{items_of, settled_item}
use Rattle.journal.specs.Lines.{line_of, lines_of}
use Rattle.stepper_printing.specs.Listing.{born_among}
use Rattle.stepper_printing.specs.Show.{name_of}
use Rattle.stepper_printing.proofs.gathering.vats_born.Goals as goal

pub loop-settled-init : goal.loop-settled-init
loop-settled-init c = λ v. ap (λ vs. born_among (lines_of (items_of c.args.journal)) v (name_of vs v)) c.new-vats.ensures.empty

pub loop-settled-preserved : goal.loop-settled-preserved
loop-settled-preserved c =
    let ss = c.args.journal.settled.now in
    let line = line_of (items_of c.args.journal) in
    let rest = map item_of c.args.journal.entries.now in
    let i = c.loop-settled.settled-index in
    let s = c.settled-item.result in
    let dropped : drop i ss ≡ s ∷ drop (i + 1) ss = grind (arith, common_steps) in λ v.
    ap (born_among (map line (map settled_item (drop (i + 1) ss) ++ rest)) v) (c.in_ok-note_settled_birth.ensures v)
    ∙ sym (ap (λ xs. born_among (map line (map settled_item xs ++ rest)) v (name_of c.loop-settled.vats.entries v)) dropped) ∙ c.loop-settled.invariant v

pub loop-entry-init : goal.loop-entry-init
loop-entry-init c =
    let ss = c.args.journal.settled.now in
    let line = line_of (items_of c.args.journal) in
    let rest = map item_of c.args.journal.entries.now in
    let done : length ss ≤ c.loop-settled.settled-index = omega (arith, c.loop-settled-test.false) in λ v.
    sym (ap (λ xs. born_among (map line (map settled_item xs ++ rest)) v (name_of c.loop-settled.vats.entries v)) (drop_all c.loop-settled.settled-index ss done)) ∙ c.loop-settled.invariant v

pub loop-entry-preserved : goal.loop-entry-preserved
loop-entry-preserved c =
    let entries = c.args.journal.entries.now in
    let line = line_of (items_of c.args.journal) in
    let i = c.loop-entry.entry-index in
    let e = c.entry-item.result in
    let dropped : drop i entries ≡ e ∷ drop (i + 1) entries = grind (arith, common_steps) in λ v.
    ap (born_among (map line (map item_of (drop (i + 1) entries))) v) (c.in_ok-note_birth.ensures v)
    ∙ sym (ap (λ xs. born_among (map line (map item_of xs)) v (name_of c.loop-entry.vats.entries v)) dropped) ∙ c.loop-entry.invariant v
