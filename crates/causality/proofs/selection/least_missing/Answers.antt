use Rattle.std.proofs.Common.{◌≡◌, ◌∙◌, is_some, get_or, ap, arith}
use Rattle.std.proofs.lemmas.Grind.{common_steps}
use Rattle.ids.specs.declared.names.EventName.{EventName}
use Rattle.journal.specs.Journals.{items_of}
use Rattle.journal.specs.Lines.{lines_of}
use Rattle.causality.specs.Selections.{is_entered}
use Rattle.causality.proofs.Placed.{entered_by_place}
use Rattle.causality.proofs.selection.least_missing.Goals as goal
use Rattle.causality.proofs.selection.least_missing.Goals.{then-is_none, else-is_none}

pub loop-name-preserved : goal.loop-name-preserved
loop-name-preserved c =
    let given = c.given-given.result.now in
    let d : EventName = record { 0 = 0 } in
    let name = get_or given c.loop-name.name-index d in
    let items = items_of c.args.journal in
    let lines = lines_of items in
    let found : is_some c.place_of.result ≡ is_entered lines name = ap is_some c.place_of.ensures ∙ entered_by_place c.args.journal.places.now items c.args.journal.placed name in
    elim c.if-is_none.branch [ then-is_none w ↦ grind (arith, common_steps) | else-is_none w ↦ grind (arith, common_steps) ]
