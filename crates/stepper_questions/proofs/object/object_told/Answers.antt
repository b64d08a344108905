use Rattle.world_cells.specs.View.{world_of}
use Rattle.stepper_printing.proofs.Listings.{by_birth_along}
use Rattle.stepper_questions.proofs.Wholes.{object_is, object_lacking}
use Rattle.stepper_questions.proofs.object.object_told.Goals as goal

pub returns-clause-told : goal.returns-clause-told
returns-clause-told c =
    object_is (world_of c.args.world.now) c.args.event c.args.index c.in-Some.owned c.in_ok-vats.vats.entries
    (by_birth_along _ _ c.in_ok-vats.vats.entries c.in_ok-names.ensures c.in_ok-vats.ensures) c.in-Some.ensures.found c.in-Some.ensures.named.0 c.in-Some.ensures.named.1 _ c.in_ok-share.ensures _ c.in_ok-methods.ensures

pub returns-in_default-clause-refused : goal.returns-in_default-clause-refused
returns-in_default-clause-refused c =
    object_lacking (world_of c.args.world.now) c.args.event c.args.index c.in_ok-vats.vats.entries (by_birth_along _ _ c.in_ok-vats.vats.entries c.in_ok-names.ensures c.in_ok-vats.ensures) c.in_default.ensures.found
