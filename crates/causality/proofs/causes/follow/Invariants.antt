use Rattle.std.proofs.Common.{◌≡◌, ◌<◌, ◌||◌, ℕ, suc, true, length, Some, slice_get}
use Rattle.std.specs.Option.{option_map_or}
use Rattle.journal.specs.Items.{Item, last_of}
use Rattle.journal.specs.Journals.{items_of}
use Rattle.journal.specs.Lines.{wrote_cell}
use Rattle.causality.specs.Causes.{has_place, reached_at}
use Rattle.causality.proofs.Following.{named_place}
use Rattle.causality.proofs.causes.follow.Given as goal

-- the places so far, and those that are reached from this one, are those that are wanted; what stands at this one wrote the cell
abbrev pub invariant-loop-place : goal.invariant-loop-place
invariant-loop-place l = record {
  reached : (q : ℕ) → (has_place l.places.keys q || reached_at (items_of l.journal) l.cell.key (named_place (items_of l.journal) l.place) q)
      ≡ (has_place l.fn.places.keys q || reached_at (items_of l.journal) l.cell.key (last_of l.cell).1 q);
  within : (p : ℕ) → l.place ≡ Some p → p < length (items_of l.journal);
  wrote : (p : ℕ) → l.place ≡ Some p → (i : Item) → slice_get (items_of l.journal) p ≡ Some i → wrote_cell i l.cell.key ≡ true;
}

-- from an entry on only older ones are reached
abbrev pub decreases-loop-place : goal.decreases-loop-place
decreases-loop-place l = option_map_or suc l.place 0
