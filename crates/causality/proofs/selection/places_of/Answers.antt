use Rattle.std.proofs.Common.{◌||◌, ◌+◌, ◌∙◌, get_or, drop, ap}
use Rattle.std.proofs.lemmas.List.{at_drop_more}
use Rattle.history.specs.Chains.{is_name}
use Rattle.ids.specs.declared.names.EventName.{EventName}
use Rattle.journal_links.specs.Places.{place_of}
use Rattle.causality.specs.Causes.{has_place}
use Rattle.causality.proofs.Placed.{placed_more}
use Rattle.causality.proofs.selection.places_of.Goals as goal

pub loop-name-preserved : goal.loop-name-preserved
loop-name-preserved c = λ q.
    let xs = c.given-given.result.now in
    let i = c.loop-name.name-index in
    let d : EventName = record { 0 = 0 } in
    let old = c.loop-name.places.keys in
    placed_more (place_of c.args.journal.places.now) (get_or xs i d) (drop i xs) (drop (i + 1) xs) (at_drop_more (λ ys. ys) xs i d c.loop-name-test.true) old c.add_place.new.places.keys
    (λ r. c.in_ok-add_place.ensures r ∙ ap (λ o. is_name o r || has_place old r) c.place_of.ensures) q
    ∙ c.loop-name.invariant q
