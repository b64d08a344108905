use Rattle.std.proofs.Common.{◌∙◌, Some, None, length, map, sym, ap}
use Rattle.std.specs.Bool.{then_some}
use Rattle.journal.specs.Items.{item_of}
use Rattle.causality.proofs.Gathering.{follower_kept}
use Rattle.causality.proofs.cone.follower_place.Goals as goal

pub returns-in_err-entry : goal.returns-in_err-entry
returns-in_err-entry c =
    let j = c.args.journal in
    c.from_residual-in_err-entry.ensures
    ∙ follower_kept j.places.now (map item_of j.entries.now) (length j.settled.now) c.args.event.0 c.args.follower c.in_ok-place.place None (sym c.in_ok-place.ensures) c.in_err-entry.ensures

pub returns : goal.returns
returns c =
    let j = c.args.journal in
    let place = c.in_ok-place.place in
    c.then_some.ensures
    ∙ ap (λ b. then_some b place) c.is_follower.ensures
    ∙ follower_kept j.places.now (map item_of j.entries.now) (length j.settled.now) c.args.event.0 c.args.follower place (Some (item_of c.in_ok-entry.entry.now)) (sym c.in_ok-place.ensures) c.in_ok-entry.ensures
