use Rattle.std.proofs.Common.{◌≡◌, take}
use Rattle.event.proofs.effects.share_names.Given as goal

abbrev pub invariant-loop-name : goal.invariant-loop-name
invariant-loop-name l = l.row.items ≡ take l.name-index l.names
