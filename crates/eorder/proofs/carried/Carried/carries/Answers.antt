use Rattle.std.proofs.Common.{is_some, ap, ◌∙◌}
use Rattle.eorder.specs.Carried.{carries}
use Rattle.eorder.proofs.CarriedFences.{looked_up}
use Rattle.eorder.proofs.carried.Carried.carries.Goals as goal

pub returns : goal.returns
returns c = c.contains_key.ensures ∙ ap is_some (looked_up _ c.args.reference) ∙ ap (λ x. carries x c.args.reference) c.self.view_is
