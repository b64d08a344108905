use Rattle.std.proofs.Common.{◌≡◌, is_some, length, map, drop}
use Rattle.std.specs.List.{fold}
use Rattle.journal.specs.Items.{item_of}
use Rattle.journal.specs.Journals.{items_of}
use Rattle.causality.specs.Missing.{missing_at}
use Rattle.causality.specs.Placed.{lesser_place, place_if, least_place}
use Rattle.causality.proofs.missing.first_missing.Given as goal

-- the least so far and those that are left
abbrev pub invariant-loop-name : goal.invariant-loop-name
invariant-loop-name l =
    fold lesser_place l.first (map (place_if l.journal.places.now (λ p. is_some (missing_at l.names (map item_of l.journal.entries.now) (length l.journal.settled.now) (items_of l.journal) p))) (drop l.name-index l.given))
    ≡ least_place l.journal.places.now (λ p. is_some (missing_at l.names (map item_of l.journal.entries.now) (length l.journal.settled.now) (items_of l.journal) p)) l.given
