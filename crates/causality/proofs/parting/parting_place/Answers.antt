use Rattle.std.proofs.Common.{◌∙◌, Some, None, length, map, sym, ap, arith, lt-ltb}
use Rattle.std.specs.Bool.{then_some}
use Rattle.journal.specs.Items.{item_of}
use Rattle.causality.specs.Parting.{parts_from}
use Rattle.causality.proofs.Outsiders.{behind_kept, behind_none, not_less}
use Rattle.causality.proofs.parting.parting_place.Goals as goal

pub returns-then-other-place : goal.returns-then-other-place
returns-then-other-place c =
    let j = c.args.journal in
    behind_none j.places.now (parts_from c.args.names.now (item_of c.args.entry.now)) (map item_of j.entries.now) (length j.settled.now) c.args.place c.in_ok-other.other c.args.event (sym c.in_ok-other.ensures) (not_less c.args.place c.in_ok-other.other (omega (arith, c.if-other-place.true)))

pub returns-in_err-behind : goal.returns-in_err-behind
returns-in_err-behind c =
    let j = c.args.journal in
    c.from_residual-in_err-behind.ensures ∙ behind_kept j.places.now (parts_from c.args.names.now (item_of c.args.entry.now)) (map item_of j.entries.now) (length j.settled.now) c.args.place c.in_ok-other.other c.args.event None (sym c.in_ok-other.ensures) c.in_err-behind.ensures
    (lt-ltb c.args.place c.in_ok-other.other (omega (arith, c.if-other-place.false)))

pub returns : goal.returns
returns c =
    let j = c.args.journal in
    let other = c.in_ok-other.other in
    c.then_some.ensures ∙ ap (λ b. then_some b other) c.parts_from.ensures
    ∙ behind_kept j.places.now (parts_from c.args.names.now (item_of c.args.entry.now)) (map item_of j.entries.now) (length j.settled.now) c.args.place other c.args.event (Some (item_of c.in_ok-behind.behind.now)) (sym c.in_ok-other.ensures) c.in_ok-behind.ensures
    (lt-ltb c.args.place other (omega (arith, c.if-other-place.false)))
