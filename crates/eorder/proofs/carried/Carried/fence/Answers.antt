use Rattle.std.proofs.Common.{ap, ◌∙◌}
use Rattle.eorder.specs.Carried.{fence_with}
use Rattle.eorder.proofs.CarriedFences.{looked_up}
use Rattle.eorder.proofs.carried.Carried.fence.Goals as goal

pub returns : goal.returns
returns c = c.get.ensures.value ∙ looked_up _ c.args.reference ∙ ap (λ x. fence_with x c.args.reference) c.self.view_is
