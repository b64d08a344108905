use Rattle.std.proofs.Common.{sym, ap, ◌∙◌}
use Rattle.std.specs.Option.{option_copied}
use Rattle.heap.specs.State.{fence_cell}
use Rattle.world_cells.proofs.Changing.{writer_at}
use Rattle.world_cells.proofs.homes.Homes.fence_writer.Goals as goal

pub returns-in-Some : goal.returns-in-Some
returns-in-Some c = c.last_writer.ensures ∙ writer_at _ c.in-Some.state.now (fence_cell c.args.reference) (sym c.state.ensures ∙ ap option_copied c.in-Some.is)
