use Rattle.std.proofs.Common.{sym, ap, ◌∙◌}
use Rattle.std.specs.Option.{option_copied}
use Rattle.heap.specs.State.{object_cell}
use Rattle.world_cells.proofs.Changing.{writer_at}
use Rattle.world_cells.proofs.homes.Homes.object_writer.Goals as goal

pub returns-in-Some : goal.returns-in-Some
returns-in-Some c = c.last_writer.ensures ∙ writer_at _ c.in-Some.state.now (object_cell c.args.object) (sym c.state.ensures ∙ ap option_copied c.in-Some.is)
