use Rattle.std.proofs.Common.{◌∙◌, Option, sym, ap}
use Rattle.std.specs.Option.{option_map, option_and_then}
use Rattle.journal.specs.Items.{Item, item_of}
use Rattle.journal.specs.Journals.{items_of}
use Rattle.causality.specs.Missing.{missed_place}
use Rattle.causality.specs.Placed.{name_there}
use Rattle.causality.specs.Selections.{gap}
use Rattle.causality.specs.declared.selection.Gap.{Gap}
use Rattle.causality.proofs.Missed.{missed_within}
use Rattle.causality.proofs.missing.missing_at.Goals as goal

pub name_at-requires : goal.name_at-requires
name_at-requires c = missed_within c.args.names.now (items_of c.args.journal) (item_of c.in_ok-entry.entry.now) c.in_ok-missed.missed (sym c.in_ok-missed.ensures)

pub returns-in_err-entry : goal.returns-in_err-entry
returns-in_err-entry c =
    let all = items_of c.args.journal in
    let answer : Item → Option Gap = λ i. option_map (gap i.event.name) (name_there all (missed_place c.args.names.now all i)) in
    c.from_residual.ensures ∙ ap (option_and_then answer) c.in_err-entry.ensures

pub returns-in_err-missed : goal.returns-in_err-missed
returns-in_err-missed c =
    let all = items_of c.args.journal in
    let answer : Item → Option Gap = λ i. option_map (gap i.event.name) (name_there all (missed_place c.args.names.now all i)) in
    c.from_residual-in_err-missed.ensures ∙ ap (λ o. option_map (gap c.in_ok-entry.entry.now.event.name) (name_there all o)) c.in_err-missed.ensures ∙ ap (option_and_then answer) c.in_ok-entry.ensures

pub returns : goal.returns
returns c =
    let all = items_of c.args.journal in
    let answer : Item → Option Gap = λ i. option_map (gap i.event.name) (name_there all (missed_place c.args.names.now all i)) in
    ap (option_map (gap c.in_ok-entry.entry.now.event.name)) (sym c.name_at.ensures ∙ ap (name_there all) c.in_ok-missed.ensures) ∙ ap (option_and_then answer) c.in_ok-entry.ensures
