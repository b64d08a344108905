use Rattle.std.proofs.Common.{◌≡◌, map, drop, reverse}
use Rattle.std.specs.List.{fold}
use Rattle.journal.specs.Items.{item_of, lasts_of}
use Rattle.journal.specs.Journals.{items_of}
use Rattle.causality.specs.Missing.{met_back, missed_place}
use Rattle.causality.specs.Placed.{lesser_place}
use Rattle.causality.specs.Walks.{stays}
use Rattle.causality.proofs.missing.missed_place.Given as goal

-- the oldest so far and what is met from those that are left
abbrev pub invariant-loop-cell : goal.invariant-loop-cell
invariant-loop-cell l =
    fold lesser_place l.oldest (map (λ c. met_back (stays l.names) c.0 c.1 (reverse (items_of l.journal))) (lasts_of (drop l.cell-index l.entry.touched.items)))
    ≡ missed_place l.names (items_of l.journal) (item_of l.entry)
