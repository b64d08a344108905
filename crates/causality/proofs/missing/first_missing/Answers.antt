use Rattle.std.proofs.Common.{◌∙◌, ℕ, Bool, Option, List, is_some, length, map, sym, ap, arith}
use Rattle.std.specs.List.{fold}
use Rattle.std.specs.Option.{option_and_then}
use Rattle.std.proofs.lemmas.List.{drop_all}
use Rattle.ids.specs.declared.names.EventName.{EventName}
use Rattle.journal.specs.Items.{item_of}
use Rattle.journal.specs.Journals.{items_of}
use Rattle.causality.specs.Missing.{missing_at}
use Rattle.causality.specs.Placed.{lesser_place, place_if, least_place}
use Rattle.causality.specs.declared.selection.Gap.{Gap}
use Rattle.causality.proofs.missing.first_missing.Goals as goal

pub returns-in_err-place : goal.returns-in_err-place
returns-in_err-place c =
    let j = c.args.journal in
    let answer : ℕ → Option Gap = missing_at c.args.names.now (map item_of j.entries.now) (length j.settled.now) (items_of j) in
    let good : ℕ → Bool = λ p. is_some (answer p) in
    let given = c.given-given.result.now in
    c.from_residual.ensures ∙ sym (ap (λ (ns : List EventName). option_and_then answer (least_place j.places.now good ns)) (sym c.given-given.ensures)
    ∙ ap (option_and_then answer) (sym c.loop-name.invariant ∙ ap (λ ys. fold lesser_place c.loop-name.first (map (place_if j.places.now good) ys)) (drop_all c.loop-name.name-index given (omega (arith, c.loop-name-test.false))) ∙ c.in_err-place.was))

pub returns : goal.returns
returns c =
    let j = c.args.journal in
    let answer : ℕ → Option Gap = missing_at c.args.names.now (map item_of j.entries.now) (length j.settled.now) (items_of j) in
    let good : ℕ → Bool = λ p. is_some (answer p) in
    let given = c.given-given.result.now in
    c.missing_at.ensures
    ∙ sym (ap (λ (ns : List EventName). option_and_then answer (least_place j.places.now good ns)) (sym c.given-given.ensures)
    ∙ ap (option_and_then answer) (sym c.loop-name.invariant ∙ ap (λ ys. fold lesser_place c.loop-name.first (map (place_if j.places.now good) ys)) (drop_all c.loop-name.name-index given (omega (arith, c.loop-name-test.false))) ∙ c.in_ok-place.was))
