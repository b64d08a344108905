use Rattle.std.proofs.Common.{◌≡◌, ℕ, take}
use Rattle.std.specs.List.{list_any}
use Rattle.journal.specs.Items.{last_of}
use Rattle.journal.specs.Journals.{items_of}
use Rattle.causality.specs.Causes.{has_place, reached_at}
use Rattle.causality.proofs.causes.causes.Given as goal

-- the places so far are those that are reached from the cells so far
abbrev pub invariant-loop-cell : goal.invariant-loop-cell
invariant-loop-cell l = (q : ℕ) → has_place l.places.keys q ≡ list_any (λ t. reached_at (items_of l.journal) (last_of t).0 (last_of t).1 q) (take l.cell-index l.cell-items)
