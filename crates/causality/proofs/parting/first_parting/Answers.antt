use Rattle.std.proofs.Common.{◌∙◌, length, map, sym, ap, arith}
use Rattle.std.specs.List.{fold}
use Rattle.std.proofs.lemmas.List.{drop_all}
use Rattle.journal.specs.Items.{item_of}
use Rattle.journal.specs.Journals.{items_of}
use Rattle.causality.specs.Parting.{parts_at}
use Rattle.causality.specs.Placed.{lesser_place, place_if}
use Rattle.causality.proofs.Placed.{least_within}
use Rattle.causality.proofs.parting.first_parting.Goals as goal

pub name_at-requires : goal.name_at-requires
name_at-requires c =
    let j = c.args.journal in
    let good = parts_at c.args.names.now (map item_of j.entries.now) (length j.settled.now) (item_of c.args.entry.now) c.args.place in
    let given = c.args.outsiders.now in
    least_within j.places.now (items_of j) good given j.placed c.in_ok-there.there
    (sym c.loop-other.invariant ∙ ap (λ ys. fold lesser_place c.loop-other.first (map (place_if j.places.now good) ys)) (drop_all c.loop-other.other-index given (omega (arith, c.loop-other-test.false))) ∙ c.in_ok-there.was)
