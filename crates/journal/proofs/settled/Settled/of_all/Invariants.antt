use Rattle.std.proofs.Common.{◌≡◌, map, take}
use Rattle.journal.specs.Items.{item_of}
use Rattle.journal.specs.Journals.{settled_item}
use Rattle.journal.proofs.settled.Settled.of_all.Given as goal

abbrev pub invariant-loop-entry : goal.invariant-loop-entry
invariant-loop-entry l = map settled_item l.all.items ≡ map item_of (take l.entry-index l.entries)
