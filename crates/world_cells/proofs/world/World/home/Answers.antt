use Rattle.world_cells.proofs.Worlds.{state_there, state_absent}
use Rattle.world_cells.proofs.world.World.home.Goals as goal

pub returns-clause-there : goal.returns-clause-there
returns-clause-there c = state_there c.args.self.now c.args.vat c.state.result c.state.ensures

pub returns-clause-absent : goal.returns-clause-absent
returns-clause-absent c = state_absent c.args.self.now c.args.vat c.state.result c.state.ensures
