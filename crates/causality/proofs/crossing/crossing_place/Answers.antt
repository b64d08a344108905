use Rattle.std.proofs.Common.{◌∙◌, ℕ, Option, Some, None, is_some, length, map, sym, ap, ap₂}
use Rattle.std.specs.Option.{option_and_then}
use Rattle.journal.specs.Items.{Item, item_of}
use Rattle.journal.specs.Journals.{items_of}
use Rattle.journal.specs.Links.{open_at}
use Rattle.causality.specs.Crossing.{crossing_at, finder_place}
use Rattle.causality.specs.Placed.{kept_if, lesser_place}
use Rattle.causality.proofs.Outsiders.{opened}
use Rattle.causality.proofs.crossing.crossing_place.Goals as goal

pub returns-in_err-place : goal.returns-in_err-place
returns-in_err-place c =
    let j = c.args.journal in
    let xs = map item_of j.entries.now in
    let n = length j.settled.now in
    let one : ℕ → Item → Option ℕ = λ p i. lesser_place (kept_if (λ q. is_some (crossing_at j.places.now j.heirs.now c.args.names.now xs n (items_of j) q)) (Some p)) (finder_place j.places.now j.followers.now c.args.names.now xs n p i) in
    c.from_residual.ensures ∙ ap (option_and_then (λ p. option_and_then (one p) (open_at xs n (Some p)))) c.in_err-place.ensures

pub returns-in_err-entry : goal.returns-in_err-entry
returns-in_err-entry c =
    let j = c.args.journal in
    let xs = map item_of j.entries.now in
    let n = length j.settled.now in
    let one : ℕ → Item → Option ℕ = λ p i. lesser_place (kept_if (λ q. is_some (crossing_at j.places.now j.heirs.now c.args.names.now xs n (items_of j) q)) (Some p)) (finder_place j.places.now j.followers.now c.args.names.now xs n p i) in
    c.from_residual-in_err-entry.ensures ∙ opened j.places.now xs n c.args.event c.in_ok-place.place None one (sym c.in_ok-place.ensures) c.in_err-entry.ensures

pub returns : goal.returns
returns c =
    let j = c.args.journal in
    let xs = map item_of j.entries.now in
    let n = length j.settled.now in
    let one : ℕ → Item → Option ℕ = λ p i. lesser_place (kept_if (λ q. is_some (crossing_at j.places.now j.heirs.now c.args.names.now xs n (items_of j) q)) (Some p)) (finder_place j.places.now j.followers.now c.args.names.now xs n p i) in
    c.lesser_place.ensures ∙ ap₂ lesser_place c.own_place-own.ensures c.finder_place.ensures
    ∙ opened j.places.now xs n c.args.event c.in_ok-place.place (Some (item_of c.in_ok-entry.entry.now)) one (sym c.in_ok-place.ensures) c.in_ok-entry.ensures
