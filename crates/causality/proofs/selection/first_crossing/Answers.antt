use Rattle.std.proofs.Common.{◌∙◌}
use Rattle.causality.proofs.Behind.{none_of}
use Rattle.causality.proofs.Crossed.{crossing_found}
use Rattle.causality.proofs.selection.first_crossing.Goals as goal

pub returns : goal.returns
returns c =
    let j = c.args.journal in
    let names = c.args.names.now in
    c.first_crossed.ensures
    ∙ crossing_found j.places.now j.followers.now j.heirs.now j.settled.now j.entries.now names j.placed j.followed j.inherited c.requires.journal (none_of names j c.requires.open) c.requires.whole
