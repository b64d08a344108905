use Rattle.std.proofs.Common.{sym}
use Rattle.journal.specs.Journals.{items_of}
use Rattle.causality.proofs.Placed.{within_by_place}
use Rattle.causality.proofs.selection.place_if.Goals as goal

pub has_mark_at-is_as-requires : goal.has_mark_at-is_as-requires
has_mark_at-is_as-requires c =
    let j = c.args.journal in
    within_by_place j.places.now (items_of j) j.placed c.args.event c.in_ok-place.place (sym c.in_ok-place.ensures)
