use Rattle.std.proofs.Common.{refl}
use Rattle.stepper.proofs.Running.{tried, found_none, not_looked}
use Rattle.stepper.proofs.engine.Engine.try_step.Goals as goal

pub returns-in-Ok-Some : goal.returns-in-Ok-Some
returns-in-Ok-Some g c = tried g.W.Write.contents c.next.ensures.same refl refl (rw c.in-Ok-Some.field-0-is at c.in-Ok-Some.ensures.first) c.make_step.ensures

pub returns-in-Ok-None : goal.returns-in-Ok-None
returns-in-Ok-None g c = found_none g.W.Write.contents c.next.ensures.same refl refl (rw c.in-Ok-None.field-0-is at c.in-Ok-None.ensures.first) c.put_idle.ensures

pub returns-in-Err : goal.returns-in-Err
returns-in-Err g c = not_looked g.W.Write.contents c.next.ensures.same refl c.refuse_call.ensures
