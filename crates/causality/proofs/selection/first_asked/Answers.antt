use Rattle.std.proofs.Common.{◌∙◌, length, map, sym, ap, arith}
use Rattle.std.specs.List.{fold}
use Rattle.std.proofs.lemmas.List.{drop_all}
use Rattle.journal.specs.Journals.{items_of}
use Rattle.causality.specs.Placed.{is_as, lesser_place, place_if}
use Rattle.causality.proofs.Placed.{least_within}
use Rattle.causality.proofs.selection.first_asked.Goals as goal

pub name_at-requires : goal.name_at-requires
name_at-requires c =
    let j = c.args.journal in
    let items = items_of j in
    let given = c.given-given.result.now in
    let good = is_as c.args.asked (length j.settled.now) items in
    least_within j.places.now items good given j.placed c.in_ok-place.place
    (sym c.loop-name.invariant ∙ ap (λ ys. fold lesser_place c.loop-name.first (map (place_if j.places.now good) ys)) (drop_all c.loop-name.name-index given (omega (arith, c.loop-name-test.false))) ∙ c.in_ok-place.was)
