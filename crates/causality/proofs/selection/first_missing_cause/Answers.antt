use Rattle.std.proofs.Common.{◌∙◌}
use Rattle.causality.proofs.Behind.{none_of}
use Rattle.causality.proofs.Missed.{missing_found}
use Rattle.causality.proofs.selection.first_missing_cause.Goals as goal

pub returns : goal.returns
returns c =
    let j = c.args.journal in
    let names = c.args.names.now in
    c.first_missing.ensures ∙ missing_found j.places.now j.settled.now j.entries.now names j.placed c.requires.journal (none_of names j c.requires.open)
