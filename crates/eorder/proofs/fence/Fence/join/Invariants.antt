use Rattle.std.proofs.Common.{◌≡◌, drop}
use Rattle.eorder.specs.Fences.{joined}
use Rattle.eorder.proofs.fence.Fence.join.Given as goal

abbrev pub invariant-loop-name : goal.invariant-loop-name
invariant-loop-name l = joined l.initial.self l.names ≡ joined l.self (drop l.name-index l.names)
