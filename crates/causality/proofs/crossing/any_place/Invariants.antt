use Rattle.std.proofs.Common.{◌≡◌, length, map, drop}
use Rattle.std.specs.List.{fold}
use Rattle.journal.specs.Items.{item_of, last_of}
use Rattle.journal.specs.Links.{names_of}
use Rattle.causality.specs.Crossing.{finds_at}
use Rattle.causality.specs.Placed.{lesser_place, place_if, least_place}
use Rattle.causality.proofs.crossing.any_place.Given as goal

-- the least so far and those that are left
abbrev pub invariant-loop-entry : goal.invariant-loop-entry
invariant-loop-entry l =
    fold lesser_place l.first (map (place_if l.journal.places.now (finds_at l.names (map item_of l.journal.entries.now) (length l.journal.settled.now) l.place (last_of l.cell))) (names_of (map item_of (drop l.entry-index l.journal.entries.now))))
    ≡ least_place l.journal.places.now (finds_at l.names (map item_of l.journal.entries.now) (length l.journal.settled.now) l.place (last_of l.cell)) (names_of (map item_of l.journal.entries.now))
