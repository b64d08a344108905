use Rattle.std.proofs.Common.{sym}
use Rattle.journal.specs.Journals.{items_of}
use Rattle.causality.proofs.Placed.{within_by_place}
use Rattle.causality.proofs.missing.absent_place.Goals as goal

pub stays_at-requires : goal.stays_at-requires
stays_at-requires c =
    let j = c.args.journal in
    within_by_place j.places.now (items_of j) j.placed c.in_ok-name.name c.in_ok-place.place (sym c.in_ok-place.ensures)
