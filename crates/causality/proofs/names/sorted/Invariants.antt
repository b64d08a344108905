use Rattle.std.proofs.Common.{◌≡◌, take}
use Rattle.history.specs.Journal.{is_in}
use Rattle.ids.specs.declared.names.EventName.{EventName}
use Rattle.causality.specs.Selections.{numbers}
use Rattle.causality.proofs.names.sorted.Given as goal

-- the set has the names so far
abbrev pub invariant-loop-name : goal.invariant-loop-name
invariant-loop-name l = (e : EventName) → is_in (numbers l.set.keys) e.0 ≡ is_in (numbers (take l.name-index l.names)) e.0
