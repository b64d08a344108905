use Rattle.std.proofs.Common.{refl, subst}
use Rattle.stepper_printing.specs.Show.{Shows}
use Rattle.stepper_printing.specs.PictureView.{picture_text}
use Rattle.stepper.specs.Replies.{shown, show_without_memory}
use Rattle.stepper.proofs.Answered.{accepts, refuses}
use Rattle.stepper.proofs.engine.Engine.show.Goals as goal

pub returns-in-Ok : goal.returns-in-Ok
returns-in-Ok g c = accepts (shown (subst (λ w. Shows w (picture_text c.in-Ok.picture)) c.world.ensures.same c.in-Ok.ensures)) c.put_world.ensures refl refl

pub returns-in-Err : goal.returns-in-Err
returns-in-Err g c = refuses show_without_memory c.refuse_call.ensures refl
