use Rattle.std.proofs.Common.{◌≡◌, drop}
use Rattle.std.specs.List.{list_any}
use Rattle.ids.specs.CellKeys.{same_key}
use Rattle.world_cells.specs.Theory.{kepts_of}
use Rattle.causality.proofs.versions.wrote.Given as goal

-- what is asked of all records is asked of those that are left
abbrev pub invariant-loop-record : goal.invariant-loop-record
invariant-loop-record l = list_any (λ r. same_key r.0 l.key) (kepts_of (drop l.record-index l.entry.records.items)) ≡ list_any (λ r. same_key r.0 l.key) (kepts_of l.entry.records.items)
