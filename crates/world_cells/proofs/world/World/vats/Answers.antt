use Rattle.world_cells.proofs.Worlds.{ok_follows, vats_listed}
use Rattle.world_cells.proofs.world.World.vats.Goals as goal

pub returns : goal.returns
returns c = ok_follows c.vats.result _ _ c.vats.ensures (λ vats e. vats_listed c.args.self.now vats.items e)
