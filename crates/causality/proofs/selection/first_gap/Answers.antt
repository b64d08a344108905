use Rattle.std.proofs.Common.{◌∙◌, List, Option, is_some, length, map, ap}
use Rattle.std.specs.Option.{option_and_then}
use Rattle.ids.specs.declared.names.EventName.{EventName}
use Rattle.journal.specs.Items.{item_of}
use Rattle.journal.specs.Journals.{items_of}
use Rattle.causality.specs.Parting.{gap_at}
use Rattle.causality.specs.Placed.{least_place}
use Rattle.causality.specs.declared.selection.Gap.{Gap}
use Rattle.causality.proofs.Behind.{none_of}
use Rattle.causality.proofs.Parted.{gap_found}
use Rattle.causality.proofs.selection.first_gap.Goals as goal

pub returns : goal.returns
returns c =
    let j = c.args.journal in
    let names = c.args.names.now in
    let found : List EventName → Option Gap = λ listed.
    option_and_then (gap_at j.places.now listed names (map item_of j.entries.now) (length j.settled.now) (items_of j))
    (least_place j.places.now (λ p. is_some (gap_at j.places.now listed names (map item_of j.entries.now) (length j.settled.now) (items_of j) p)) names) in
    c.least_gap.ensures ∙ ap found c.deref.ensures.value
    ∙ gap_found j.places.now j.settled.now j.entries.now names c.in_ok-outsiders.outsiders.items j.placed c.requires.journal c.in_ok-outsiders.ensures (none_of names j c.requires.open) c.requires.live
