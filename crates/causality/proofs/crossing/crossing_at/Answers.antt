use Rattle.std.proofs.Common.{◌∙◌, Option, sym, ap}
use Rattle.std.specs.Option.{option_map, option_and_then}
use Rattle.journal.specs.Items.{Item, item_of}
use Rattle.journal.specs.Journals.{items_of}
use Rattle.causality.specs.Crossing.{crossed_place}
use Rattle.causality.specs.Placed.{name_there}
use Rattle.causality.specs.Selections.{gap}
use Rattle.causality.specs.declared.selection.Gap.{Gap}
use Rattle.causality.proofs.Crossed.{crossed_within}
use Rattle.causality.proofs.crossing.crossing_at.Goals as goal

pub name_at-requires : goal.name_at-requires
name_at-requires c =
    let j = c.args.journal in
    crossed_within j.places.now j.heirs.now c.args.names.now (items_of j) j.placed c.args.place (item_of c.in_ok-entry.entry.now) c.in_ok-crossed.crossed (sym c.in_ok-crossed.ensures)

pub returns-in_err-entry : goal.returns-in_err-entry
returns-in_err-entry c =
    let j = c.args.journal in
    let answer : Item → Option Gap = λ i. option_map (gap i.event.name) (name_there (items_of j) (crossed_place j.places.now j.heirs.now c.args.names.now (items_of j) c.args.place i)) in
    c.from_residual.ensures ∙ ap (option_and_then answer) c.in_err-entry.ensures

pub returns-in_err-crossed : goal.returns-in_err-crossed
returns-in_err-crossed c =
    let j = c.args.journal in
    let answer : Item → Option Gap = λ i. option_map (gap i.event.name) (name_there (items_of j) (crossed_place j.places.now j.heirs.now c.args.names.now (items_of j) c.args.place i)) in
    c.from_residual-in_err-crossed.ensures ∙ ap (λ o. option_map (gap c.in_ok-entry.entry.now.event.name) (name_there (items_of j) o)) c.in_err-crossed.ensures ∙ ap (option_and_then answer) c.in_ok-entry.ensures

pub returns : goal.returns
returns c =
    let j = c.args.journal in
    let answer : Item → Option Gap = λ i. option_map (gap i.event.name) (name_there (items_of j) (crossed_place j.places.now j.heirs.now c.args.names.now (items_of j) c.args.place i)) in
    ap (option_map (gap c.in_ok-entry.entry.now.event.name)) (sym c.name_at.ensures ∙ ap (name_there (items_of j)) c.in_ok-crossed.ensures) ∙ ap (option_and_then answer) c.in_ok-entry.ensures
