use Rattle.std.proofs.Common.{◌≡◌, drop}
use Rattle.std.specs.List.{list_any}
use Rattle.history.specs.Chains.{is_name}
use Rattle.journal.specs.Items.{lasts_of}
use Rattle.causality.proofs.cone.follows.Given as goal

-- what is asked of all cells is asked of those that are left
abbrev pub invariant-loop-cell : goal.invariant-loop-cell
invariant-loop-cell l = list_any (λ p. is_name p.1 l.event.0) (lasts_of (drop l.cell-index l.entry.touched.items)) ≡ list_any (λ p. is_name p.1 l.event.0) (lasts_of l.entry.touched.items)
