use Rattle.stepper.proofs.Answered.{happens_as}
use Rattle.stepper.proofs.engine.Engine.obey.Goals as goal

pub returns : goal.returns
returns g c = happens_as (λ b r s d k. k.1) c.make_step.ensures
