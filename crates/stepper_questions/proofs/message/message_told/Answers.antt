use Rattle.std.proofs.Common.{ap, ◌∙◌}
use Rattle.post.specs.DeliveryView.{delivery_of}
use Rattle.post.specs.MessageView.{message_of}
use Rattle.post.specs.declared.message.Sent.{Sent}
use Rattle.stepper_questions.specs.Deliveries.{delivery_lines}
use Rattle.world_cells.specs.View.{world_of}
use Rattle.stepper_printing.proofs.Listings.{by_birth_along}
use Rattle.stepper_questions.proofs.Wholes.{message_there, message_gone, message_is}
use Rattle.stepper_questions.proofs.message.message_told.Goals as goal

pub returns-clause-told : goal.returns-clause-told
returns-clause-told c =
    let w = world_of c.args.world.now in
    message_is w c.args.name (message_of c.in-Some.message.now) (message_there w c.args.name (message_of c.in-Some.message.now) c.in-Some.ensures) c.in_ok-vats.vats.entries
    (by_birth_along _ _ c.in_ok-vats.vats.entries c.in_ok-names.ensures c.in_ok-vats.ensures) _ (c.in_ok-delivered.ensures ∙ ap (λ (s : Sent). delivery_lines (delivery_of s.delivery)) c.deref.ensures)

pub returns-in_default-clause-refused : goal.returns-in_default-clause-refused
returns-in_default-clause-refused c = message_gone (world_of c.args.world.now) c.args.name c.in_default.ensures
