use Rattle.std.proofs.Common.{◌≡◌, map, drop}
use Rattle.std.specs.Prelude.{not}
use Rattle.journal.specs.Items.{item_of}
use Rattle.causality.specs.Walks.{first_item}
use Rattle.book_refusals.proofs.checks.first_undone.Given as goal

abbrev pub invariant-loop-entry : goal.invariant-loop-entry
invariant-loop-entry l = first_item (λ i. not i.live) (map item_of (drop l.entry-index l.entries)) ≡ first_item (λ i. not i.live) (map item_of l.entries)
