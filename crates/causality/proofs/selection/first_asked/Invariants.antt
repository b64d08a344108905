use Rattle.std.proofs.Common.{◌≡◌, length, map, drop}
use Rattle.std.specs.List.{fold}
use Rattle.journal.specs.Journals.{items_of}
use Rattle.causality.specs.Placed.{is_as, lesser_place, place_if, least_place}
use Rattle.causality.proofs.selection.first_asked.Given as goal

-- the least so far and those that are left
abbrev pub invariant-loop-name : goal.invariant-loop-name
invariant-loop-name l =
    fold lesser_place l.first (map (place_if l.journal.places.now (is_as l.asked (length l.journal.settled.now) (items_of l.journal))) (drop l.name-index l.given))
    ≡ least_place l.journal.places.now (is_as l.asked (length l.journal.settled.now) (items_of l.journal)) l.given
