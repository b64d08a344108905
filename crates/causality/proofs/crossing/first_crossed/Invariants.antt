use Rattle.std.proofs.Common.{◌≡◌, None, length, map, drop}
use Rattle.std.specs.List.{fold}
use Rattle.journal.specs.Items.{item_of}
use Rattle.journal.specs.Journals.{items_of}
use Rattle.causality.specs.Crossing.{crossing_place}
use Rattle.causality.specs.Placed.{lesser_place}
use Rattle.causality.proofs.crossing.first_crossed.Given as goal

-- the least so far and those that are left
abbrev pub invariant-loop-name : goal.invariant-loop-name
invariant-loop-name l =
    fold lesser_place l.first (map (crossing_place l.journal.places.now l.journal.followers.now l.journal.heirs.now l.names (map item_of l.journal.entries.now) (length l.journal.settled.now) (items_of l.journal)) (drop l.name-index l.given))
    ≡ fold lesser_place None (map (crossing_place l.journal.places.now l.journal.followers.now l.journal.heirs.now l.names (map item_of l.journal.entries.now) (length l.journal.settled.now) (items_of l.journal)) l.given)
