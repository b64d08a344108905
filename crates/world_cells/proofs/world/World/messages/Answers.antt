use Rattle.std.proofs.Common.{ap}
use Rattle.world_cells.specs.World.{message}
use Rattle.post.specs.MessageView.{message_of}
use Rattle.world_cells.proofs.Worlds.{ok_follows, clones_alike}
use Rattle.world_cells.proofs.world.World.messages.Goals as goal

pub returns : goal.returns
returns c = ok_follows c.in_order.result _ _ c.in_order.ensures (λ all h q. clones_alike _ (λ g. message (message_of g)) (λ v w e. ap message e) _ _ (h q))
