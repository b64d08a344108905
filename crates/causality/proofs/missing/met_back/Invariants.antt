use Rattle.std.proofs.Common.{suc, reverse}
use Rattle.std.specs.Option.{option_map_or}
use Rattle.journal.specs.Items.{last_of}
use Rattle.journal.specs.Journals.{items_of}
use Rattle.causality.specs.Missing.{met_back}
use Rattle.causality.specs.Walks.{stays}
use Rattle.causality.proofs.Missed.{Going}
use Rattle.causality.proofs.missing.met_back.Given as goal

-- what is met so far, and from here on
abbrev pub invariant-loop-place : goal.invariant-loop-place
invariant-loop-place l = Going l.names (items_of l.journal) l.cell.key l.place l.oldest (met_back (stays l.names) (last_of l.cell).0 (last_of l.cell).1 (reverse (items_of l.journal)))

-- from an entry on only older ones are met
abbrev pub decreases-loop-place : goal.decreases-loop-place
decreases-loop-place l = option_map_or suc l.place 0
