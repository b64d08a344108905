use Rattle.std.proofs.Common.{◌∙◌, ℕ, Option, None, List, length, map, sym, ap, arith}
use Rattle.std.specs.List.{fold}
use Rattle.std.specs.Option.{option_and_then}
use Rattle.std.proofs.lemmas.List.{drop_all}
use Rattle.ids.specs.declared.names.EventName.{EventName}
use Rattle.journal.specs.Items.{item_of}
use Rattle.journal.specs.Journals.{items_of}
use Rattle.causality.specs.Crossing.{crossing_at, crossing_place}
use Rattle.causality.specs.Placed.{lesser_place}
use Rattle.causality.specs.declared.selection.Gap.{Gap}
use Rattle.causality.proofs.crossing.first_crossed.Goals as goal

pub returns-in_err-place : goal.returns-in_err-place
returns-in_err-place c =
    let j = c.args.journal in
    let answer : ℕ → Option Gap = crossing_at j.places.now j.heirs.now c.args.names.now (map item_of j.entries.now) (length j.settled.now) (items_of j) in
    let one : EventName → Option ℕ = crossing_place j.places.now j.followers.now j.heirs.now c.args.names.now (map item_of j.entries.now) (length j.settled.now) (items_of j) in
    let given = c.given-given.result.now in
    c.from_residual.ensures ∙ sym (ap (λ (ns : List EventName). option_and_then answer (fold lesser_place None (map one ns))) (sym c.given-given.ensures)
    ∙ ap (option_and_then answer) (sym c.loop-name.invariant ∙ ap (λ ys. fold lesser_place c.loop-name.first (map one ys)) (drop_all c.loop-name.name-index given (omega (arith, c.loop-name-test.false))) ∙ c.in_err-place.was))

pub returns : goal.returns
returns c =
    let j = c.args.journal in
    let answer : ℕ → Option Gap = crossing_at j.places.now j.heirs.now c.args.names.now (map item_of j.entries.now) (length j.settled.now) (items_of j) in
    let one : EventName → Option ℕ = crossing_place j.places.now j.followers.now j.heirs.now c.args.names.now (map item_of j.entries.now) (length j.settled.now) (items_of j) in
    let given = c.given-given.result.now in
    c.crossing_at.ensures ∙ sym (ap (λ (ns : List EventName). option_and_then answer (fold lesser_place None (map one ns))) (sym c.given-given.ensures)
    ∙ ap (option_and_then answer) (sym c.loop-name.invariant ∙ ap (λ ys. fold lesser_place c.loop-name.first (map one ys)) (drop_all c.loop-name.name-index given (omega (arith, c.loop-name-test.false))) ∙ c.in_ok-place.was))
