use Rattle.std.proofs.Common.{◌≡◌, drop}
use Rattle.std.specs.List.{list_any}
use Rattle.journal.specs.Items.{last_of, lasts_of}
use Rattle.causality.specs.Crossing.{is_version}
use Rattle.causality.proofs.versions.any_version.Given as goal

-- what is asked of all cells is asked of those that are left
abbrev pub invariant-loop-other : goal.invariant-loop-other
invariant-loop-other l = list_any (is_version (last_of l.cell)) (lasts_of (drop l.other-index l.cells)) ≡ list_any (is_version (last_of l.cell)) (lasts_of l.cells)
