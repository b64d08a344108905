use Rattle.std.proofs.Common.{◌≡◌, ℕ, ◌||◌, drop}
use Rattle.std.specs.List.{list_any}
use Rattle.history.specs.Chains.{is_name}
use Rattle.journal_links.specs.Places.{place_of}
use Rattle.causality.specs.Causes.{has_place}
use Rattle.causality.proofs.selection.places_of.Given as goal

-- the places so far and those of the names that are left
abbrev pub invariant-loop-name : goal.invariant-loop-name
invariant-loop-name l = (q : ℕ) → (has_place l.places.keys q || list_any (λ e. is_name (place_of l.journal.places.now e) q) (drop l.name-index l.given)) ≡ list_any (λ e. is_name (place_of l.journal.places.now e) q) l.given
