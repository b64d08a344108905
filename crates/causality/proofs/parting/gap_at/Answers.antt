use Rattle.std.proofs.Common.{◌∙◌, Option, length, map, ap}
use Rattle.std.specs.Option.{option_map, option_and_then}
use Rattle.journal.specs.Items.{Item, item_of}
use Rattle.journal.specs.Journals.{items_of}
use Rattle.causality.specs.Parting.{parting}
use Rattle.causality.specs.Selections.{gap}
use Rattle.causality.specs.declared.selection.Gap.{Gap}
use Rattle.causality.proofs.parting.gap_at.Goals as goal

pub returns-in_err-entry : goal.returns-in_err-entry
returns-in_err-entry c =
    let j = c.args.journal in
    let answer : Item → Option Gap = λ i. option_map (gap i.event.name) (parting j.places.now c.args.outsiders.now c.args.names.now (map item_of j.entries.now) (length j.settled.now) (items_of j) i c.args.place) in
    c.from_residual.ensures ∙ ap (option_and_then answer) c.in_err-entry.ensures

pub returns-in_err-other : goal.returns-in_err-other
returns-in_err-other c =
    let j = c.args.journal in
    let answer : Item → Option Gap = λ i. option_map (gap i.event.name) (parting j.places.now c.args.outsiders.now c.args.names.now (map item_of j.entries.now) (length j.settled.now) (items_of j) i c.args.place) in
    c.from_residual-in_err-other.ensures ∙ ap (option_map (gap c.in_ok-entry.entry.now.event.name)) c.in_err-other.ensures ∙ ap (option_and_then answer) c.in_ok-entry.ensures

pub returns : goal.returns
returns c =
    let j = c.args.journal in
    let answer : Item → Option Gap = λ i. option_map (gap i.event.name) (parting j.places.now c.args.outsiders.now c.args.names.now (map item_of j.entries.now) (length j.settled.now) (items_of j) i c.args.place) in
    ap (option_map (gap c.in_ok-entry.entry.now.event.name)) c.in_ok-other.ensures ∙ ap (option_and_then answer) c.in_ok-entry.ensures
