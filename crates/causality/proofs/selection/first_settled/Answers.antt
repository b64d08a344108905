use Rattle.std.proofs.Common.{◌∙◌, length}
use Rattle.journal.specs.Journals.{items_of}
use Rattle.causality.proofs.Placed.{settled_by_place}
use Rattle.causality.proofs.selection.first_settled.Goals as goal

pub returns : goal.returns
returns c =
    let j = c.args.journal in
    c.first_asked.ensures ∙ settled_by_place j.places.now (items_of j) c.args.names.now (length j.settled.now) j.placed c.requires
