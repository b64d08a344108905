use Rattle.std.proofs.Common.{◌∙◌, ◌&&◌, Bool, Some, None, length, map, sym, ap, arith, lt-ltb}
use Rattle.std.specs.Bool.{then_some}
use Rattle.journal.specs.Items.{Item, item_of, last_of}
use Rattle.causality.specs.Crossing.{found_so}
use Rattle.causality.specs.Walks.{stays}
use Rattle.causality.proofs.Outsiders.{behind_kept, behind_none, not_less}
use Rattle.causality.proofs.crossing.behind_place.Goals as goal

pub returns-then-there-place : goal.returns-then-there-place
returns-then-there-place c =
    let j = c.args.journal in
    let test : Item → Bool = λ i. stays c.args.names.now i && found_so (last_of c.args.cell.now) i in
    behind_none j.places.now test (map item_of j.entries.now) (length j.settled.now) c.args.place c.in_ok-there.there c.args.event (sym c.in_ok-there.ensures) (not_less c.args.place c.in_ok-there.there (omega (arith, c.if-there-place.true)))

pub returns-in_err-entry : goal.returns-in_err-entry
returns-in_err-entry c =
    let j = c.args.journal in
    let test : Item → Bool = λ i. stays c.args.names.now i && found_so (last_of c.args.cell.now) i in
    c.from_residual-in_err-entry.ensures ∙ behind_kept j.places.now test (map item_of j.entries.now) (length j.settled.now) c.args.place c.in_ok-there.there c.args.event None (sym c.in_ok-there.ensures) c.in_err-entry.ensures
    (lt-ltb c.args.place c.in_ok-there.there (omega (arith, c.if-there-place.false)))

pub returns : goal.returns
returns c =
    let j = c.args.journal in
    let test : Item → Bool = λ i. stays c.args.names.now i && found_so (last_of c.args.cell.now) i in
    let there = c.in_ok-there.there in
    c.then_some.ensures ∙ ap (λ b. then_some b there) c.is_finder.ensures
    ∙ behind_kept j.places.now test (map item_of j.entries.now) (length j.settled.now) c.args.place there c.args.event (Some (item_of c.in_ok-entry.entry.now)) (sym c.in_ok-there.ensures) c.in_ok-entry.ensures
    (lt-ltb c.args.place there (omega (arith, c.if-there-place.false)))
