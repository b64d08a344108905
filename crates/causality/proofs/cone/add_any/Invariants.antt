use Rattle.std.proofs.Common.{◌≡◌, ◌||◌, ℕ, length, map, drop}
use Rattle.std.specs.List.{list_any}
use Rattle.history.specs.Chains.{is_name}
use Rattle.journal.specs.Items.{item_of}
use Rattle.causality.specs.Causes.{has_place}
use Rattle.causality.specs.Placed.{is_follower, place_if}
use Rattle.causality.proofs.cone.add_any.Given as goal

-- the places so far and those of the entries that are left
abbrev pub invariant-loop-entry : goal.invariant-loop-entry
invariant-loop-entry l = (q : ℕ) →
    (has_place l.places.keys q || list_any (λ x. is_name (place_if l.journal.places.now (is_follower l.event.0 (map item_of l.journal.entries.now) (length l.journal.settled.now)) x.event.name) q) (drop l.entry-index l.journal.entries.now))
    ≡ (has_place l.fn.places.keys q || list_any (λ x. is_name (place_if l.journal.places.now (is_follower l.event.0 (map item_of l.journal.entries.now) (length l.journal.settled.now)) x.event.name) q) l.journal.entries.now)
