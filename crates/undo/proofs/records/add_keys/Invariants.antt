use Rattle.std.proofs.Common.{◌≡◌, ◌++◌, take, map}
use Rattle.world_cells.specs.Theory.{kepts_of}
use Rattle.undo.proofs.records.add_keys.Given as goal

-- the cells of the records so far are added
abbrev pub invariant-loop-record : goal.invariant-loop-record
invariant-loop-record l = l.keys.items ≡ l.initial.keys.items ++ map (λ r. r.0) (kepts_of (take l.record-index l.records))
