use Rattle.std.proofs.Common.{◌∙◌, ℕ, is_some, length, map, sym, ap}
use Rattle.std.specs.Bool.{then_some}
use Rattle.journal.specs.Items.{item_of}
use Rattle.journal.specs.Journals.{items_of}
use Rattle.causality.specs.Missing.{missing_at}
use Rattle.causality.proofs.Outsiders.{kept_there}
use Rattle.causality.proofs.missing.missing_place.Goals as goal

pub returns : goal.returns
returns c =
    let j = c.args.journal in
    let place = c.in_ok-place.place in
    c.then_some.ensures ∙ ap (λ b. then_some b place) (c.is_some.ensures ∙ ap is_some c.missing_at.ensures)
    ∙ kept_there j.places.now (λ (p : ℕ). is_some (missing_at c.args.names.now (map item_of j.entries.now) (length j.settled.now) (items_of j) p)) c.args.event place (sym c.in_ok-place.ensures)
