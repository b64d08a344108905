use Rattle.std.proofs.Common.{◌∙◌, sym, ap}
use Rattle.std.specs.Bool.{then_some}
use Rattle.journal.specs.Items.{item_of, last_of}
use Rattle.journal.specs.Journals.{items_of}
use Rattle.causality.specs.Crossing.{hinders_at}
use Rattle.causality.proofs.Outsiders.{kept_there}
use Rattle.causality.proofs.Placed.{within_by_place}
use Rattle.causality.proofs.crossing.hinder_place.Goals as goal

pub hinders_at-requires : goal.hinders_at-requires
hinders_at-requires c =
    let j = c.args.journal in
    within_by_place j.places.now (items_of j) j.placed c.args.event c.in_ok-there.there (sym c.in_ok-there.ensures)

pub returns : goal.returns
returns c =
    let j = c.args.journal in
    let there = c.in_ok-there.there in
    c.then_some.ensures ∙ ap (λ b. then_some b there) c.hinders_at.ensures
    ∙ kept_there j.places.now (hinders_at c.args.names.now (items_of j) c.args.place (item_of c.args.entry.now) (last_of c.args.cell.now)) c.args.event there (sym c.in_ok-there.ensures)
