use Rattle.stepper.specs.Replies.{stepped}
use Rattle.stepper.proofs.Answered.{happens_as}
use Rattle.stepper.proofs.engine.Engine.step.Goals as goal

pub returns : goal.returns
returns g c = happens_as (λ b r s d k. stepped k) c.try_step.ensures
