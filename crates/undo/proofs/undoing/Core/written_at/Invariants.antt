use Rattle.std.proofs.Common.{◌≡◌, take}
use Rattle.undo.specs.CoreView.{items_of}
use Rattle.undo.specs.Written.{written_at}
use Rattle.undo.proofs.undoing.Core.written_at.Given as goal

-- the cells of the entries at the positions so far
abbrev pub invariant-loop-position : goal.invariant-loop-position
invariant-loop-position l = l.keys.items ≡ written_at (items_of l.self) (take l.position-index l.positions)
