use Rattle.std.proofs.Common.{ap}
use Rattle.world_cells.specs.World.{published}
use Rattle.post.specs.MessageView.{published_of}
use Rattle.world_cells.proofs.Worlds.{ok_follows, clones_alike}
use Rattle.world_cells.proofs.world.World.board.Goals as goal

pub returns : goal.returns
returns c = ok_follows c.in_order.result _ _ c.in_order.ensures (λ all h q. clones_alike _ (λ p. published (published_of p)) (λ v w e. ap published e) _ _ (h q))
