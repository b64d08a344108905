use Rattle.std.proofs.Common.{◌∙◌}
use Rattle.journal.specs.Journals.{items_of}
use Rattle.causality.proofs.Placed.{marked_by_place}
use Rattle.causality.proofs.selection.first_marked.Goals as goal

pub returns : goal.returns
returns c =
    let j = c.args.journal in
    c.first_asked.ensures ∙ marked_by_place j.places.now (items_of j) c.args.names.now c.args.mark j.placed c.requires
