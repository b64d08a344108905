use Rattle.std.proofs.Common.{◌≡◌, length, map, drop}
use Rattle.std.specs.List.{fold}
use Rattle.journal.specs.Items.{item_of}
use Rattle.causality.specs.Parting.{parts_at}
use Rattle.causality.specs.Placed.{lesser_place, place_if, least_place}
use Rattle.causality.proofs.parting.first_parting.Given as goal

-- the least so far and those that are left
abbrev pub invariant-loop-other : goal.invariant-loop-other
invariant-loop-other l =
    fold lesser_place l.first (map (place_if l.journal.places.now (parts_at l.names (map item_of l.journal.entries.now) (length l.journal.settled.now) (item_of l.entry) l.place)) (drop l.other-index l.outsiders))
    ≡ least_place l.journal.places.now (parts_at l.names (map item_of l.journal.entries.now) (length l.journal.settled.now) (item_of l.entry) l.place) l.outsiders
