use Rattle.std.proofs.Common.{◌≡◌, length, map, drop}
use Rattle.std.specs.List.{fold}
use Rattle.journal.specs.Items.{item_of, last_of}
use Rattle.causality.specs.Crossing.{finds_at}
use Rattle.causality.specs.Placed.{lesser_place, place_if, least_place}
use Rattle.causality.proofs.crossing.listed_place.Given as goal

-- the least so far and those that are left
abbrev pub invariant-loop-event : goal.invariant-loop-event
invariant-loop-event l =
    fold lesser_place l.first (map (place_if l.journal.places.now (finds_at l.names (map item_of l.journal.entries.now) (length l.journal.settled.now) l.place (last_of l.cell))) (drop l.event-index l.events))
    ≡ least_place l.journal.places.now (finds_at l.names (map item_of l.journal.entries.now) (length l.journal.settled.now) l.place (last_of l.cell)) l.events
