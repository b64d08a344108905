use Rattle.std.proofs.Common.{◌≡◌, map, drop}
use Rattle.std.specs.List.{fold}
use Rattle.journal.specs.Items.{item_of, lasts_of}
use Rattle.journal.specs.Journals.{items_of}
use Rattle.causality.specs.Crossing.{heir_place, crossed_place}
use Rattle.causality.specs.Placed.{lesser_place}
use Rattle.causality.proofs.crossing.crossed_place.Given as goal

-- the least so far and those that are left
abbrev pub invariant-loop-cell : goal.invariant-loop-cell
invariant-loop-cell l =
    fold lesser_place l.first (map (heir_place l.journal.places.now l.journal.heirs.now l.names (items_of l.journal) l.place (item_of l.entry)) (lasts_of (drop l.cell-index l.entry.touched.items)))
    ≡ crossed_place l.journal.places.now l.journal.heirs.now l.names (items_of l.journal) l.place (item_of l.entry)
