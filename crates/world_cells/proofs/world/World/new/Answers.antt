use Rattle.world_cells.proofs.Worlds.{nothing_seen}
use Rattle.world_cells.proofs.world.World.new.Goals as goal

pub returns-clause-nothing : goal.returns-clause-nothing
returns-clause-nothing c = nothing_seen (record { names = c.new.result; homes = c.new-2.result; messages = c.new-3.result; board = c.new-4.result; swaps = c.none.result }) c.new.ensures.nothing c.new-2.ensures c.new-3.ensures.nothing c.new-4.ensures.nothing
