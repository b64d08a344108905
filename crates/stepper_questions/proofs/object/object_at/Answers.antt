use Rattle.world_cells.specs.View.{world_of}
use Rattle.stepper_questions.proofs.Wholes.{object_read, object_absent}
use Rattle.stepper_questions.proofs.object.object_at.Goals as goal

pub returns-in-Some : goal.returns-in-Some
returns-in-Some c = object_read c.in-Some.state.now (world_of c.args.world.now) c.args.name.event c.args.name.index c.args.name.vat _ c.get.ensures c.in-Some.ensures.there

pub returns-in-None : goal.returns-in-None
returns-in-None c = object_absent (world_of c.args.world.now) c.args.name.event c.args.name.index c.args.name.vat c.in-None.ensures.absent
