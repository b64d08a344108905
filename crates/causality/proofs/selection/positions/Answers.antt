use Rattle.std.proofs.Common.{◌∙◌, ◌≤◌, ℕ, List, All, length, sym, subst}
use Rattle.journal.specs.Journals.{items_of}
use Rattle.causality.proofs.Placed.{positions_by_place, places_behind}
use Rattle.causality.proofs.selection.positions.Goals as goal

pub returns-clause-places : goal.returns-clause-places
returns-clause-places c =
    let j = c.args.journal in
    c.in_ok-in_order.ensures.same ∙ positions_by_place j.places.now (items_of j) c.args.names.now c.in_ok-places.places.keys j.placed c.requires.journal c.in_ok-in_order.ensures.ascending c.in_ok-places.ensures

pub returns-clause-behind : goal.returns-clause-behind
returns-clause-behind c =
    let j = c.args.journal in
    let names = c.args.names.now in
    let same = c.in_ok-in_order.ensures.same ∙ positions_by_place j.places.now (items_of j) names c.in_ok-places.places.keys j.placed c.requires.journal c.in_ok-in_order.ensures.ascending c.in_ok-places.ensures in
    subst (λ (ks : List ℕ). All (λ p. length j.settled.now ≤ p) ks) (sym same) (places_behind names j c.requires.open)
