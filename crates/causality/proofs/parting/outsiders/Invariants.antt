use Rattle.std.proofs.Common.{map, take}
use Rattle.journal.specs.Items.{item_of}
use Rattle.causality.proofs.Outsiders.{HasFollowers}
use Rattle.causality.proofs.parting.outsiders.Given as goal

-- the followers of the members so far
abbrev pub invariant-loop-name : goal.invariant-loop-name
invariant-loop-name l = HasFollowers l.names (take l.name-index l.given) l.all.items (map item_of l.journal.entries.now)
