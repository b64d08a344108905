use Rattle.std.proofs.Common.{◌≡◌, map, take}
use Rattle.world_cells.specs.Theory.{state_of_world}
use Rattle.journal.specs.Items.{lasts_of}
use Rattle.journal.proofs.entry.with_writers.Given as goal

abbrev pub invariant-loop-key : goal.invariant-loop-key
invariant-loop-key l = lasts_of l.all.items ≡ map (λ k. (k, (state_of_world l.world k).1)) (take l.key-index l.keys)
