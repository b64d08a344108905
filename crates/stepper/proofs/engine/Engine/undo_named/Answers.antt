use Rattle.std.proofs.Common.{refl, subst, List, ◌∙◌}
use Rattle.ids.specs.declared.names.EventName.{EventName}
use Rattle.stepper_commands.specs.Commands as commands
use Rattle.stepper.specs.Replies.{Answers, undo_without_memory}
use Rattle.stepper.proofs.Answered.{refuses, happens_as}
use Rattle.stepper.proofs.engine.Engine.undo_named.Goals as goal

pub returns-in-Ok : goal.returns-in-Ok
returns-in-Ok g c = happens_as (λ b r s d k. subst (λ (es : List EventName). Answers c.args.self.now.limits b (commands.undo es) r s d) (c.deref.ensures.value ∙ c.in-Ok.ensures) k) c.undo.ensures

pub returns-in-Err : goal.returns-in-Err
returns-in-Err g c = refuses undo_without_memory c.refuse_call.ensures refl
