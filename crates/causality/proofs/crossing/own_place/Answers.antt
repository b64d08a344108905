use Rattle.std.proofs.Common.{◌∙◌, is_some, ap}
use Rattle.std.specs.Bool.{then_some}
use Rattle.causality.proofs.Outsiders.{some_if}
use Rattle.causality.proofs.crossing.own_place.Goals as goal

pub returns : goal.returns
returns c = c.then_some.ensures ∙ ap (λ b. then_some b c.args.place) (c.is_some.ensures ∙ ap is_some c.crossing_at.ensures) ∙ some_if _ c.args.place
