use Rattle.std.proofs.Common.{◌≡◌, map, drop}
use Rattle.std.specs.List.{fold}
use Rattle.journal.specs.Items.{item_of, last_of}
use Rattle.journal.specs.Journals.{items_of}
use Rattle.causality.specs.Crossing.{hinders_at}
use Rattle.causality.specs.Placed.{lesser_place, place_if, least_place}
use Rattle.causality.proofs.crossing.heir_place.Given as goal

-- the least so far and those that are left
abbrev pub invariant-loop-heir : goal.invariant-loop-heir
invariant-loop-heir l =
    fold lesser_place l.first (map (place_if l.journal.places.now (hinders_at l.names (items_of l.journal) l.place (item_of l.entry) (last_of l.cell))) (drop l.heir-index l.heirs))
    ≡ least_place l.journal.places.now (hinders_at l.names (items_of l.journal) l.place (item_of l.entry) (last_of l.cell)) l.heirs
