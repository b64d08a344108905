use Rattle.std.proofs.Common.{◌≡◌, drop}
use Rattle.world_cells.specs.View.{world_of}
use Rattle.event.specs.Ready.{first_undone}
use Rattle.book_agenda.proofs.ways.are_done.Given as goal

-- the names before the place are done
abbrev pub invariant-loop-name : goal.invariant-loop-name
invariant-loop-name l = first_undone (world_of l.world) (drop l.name-index l.names) ≡ first_undone (world_of l.world) l.names
