use Rattle.std.proofs.Common.{◌≡◌, ◌++◌, length, drop}
use Rattle.event.specs.Effects.{known_by}
use Rattle.event.proofs.effects.known_as.Given as goal

abbrev pub invariant-loop-name : goal.invariant-loop-name
invariant-loop-name l = known_by l.names l.vats ≡ l.row.items ++ known_by (drop (length l.yielded) l.names) (drop (length l.yielded) l.vats)
