use Rattle.std.proofs.Common.{◌≡◌, ◌||◌, ℕ, length, map, drop}
use Rattle.std.specs.List.{list_any}
use Rattle.history.specs.Chains.{is_name}
use Rattle.journal.specs.Items.{item_of}
use Rattle.causality.specs.Causes.{has_place}
use Rattle.causality.specs.Placed.{is_follower, place_if}
use Rattle.causality.proofs.cone.add_listed.Given as goal

-- the places so far and those of the names that are left
abbrev pub invariant-loop-follower : goal.invariant-loop-follower
invariant-loop-follower l = (q : ℕ) →
    (has_place l.places.keys q || list_any (λ e. is_name (place_if l.journal.places.now (is_follower l.event.0 (map item_of l.journal.entries.now) (length l.journal.settled.now)) e) q) (drop l.follower-index l.followers))
    ≡ (has_place l.fn.places.keys q || list_any (λ e. is_name (place_if l.journal.places.now (is_follower l.event.0 (map item_of l.journal.entries.now) (length l.journal.settled.now)) e) q) l.followers)
