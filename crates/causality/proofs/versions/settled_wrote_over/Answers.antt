use Rattle.std.proofs.Common.{◌∙◌, List, ap}
use Rattle.std.specs.List.{list_any}
use Rattle.journal.specs.Items.{last_of, lasts_of}
use Rattle.journal.specs.declared.entry.Touched.{Touched}
use Rattle.causality.specs.Crossing.{is_version}
use Rattle.causality.proofs.Overwritten.{settled_over}
use Rattle.causality.proofs.versions.settled_wrote_over.Goals as goal

pub returns : goal.returns
returns c =
    c.any_version.ensures ∙ ap (λ (ts : List Touched). list_any (is_version (last_of c.args.cell.now)) (lasts_of ts)) c.deref.ensures.value
    ∙ settled_over c.args.settled.now (last_of c.args.cell.now)
