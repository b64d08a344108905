use Rattle.code.specs.Sameness.{patterns_alike}
use Rattle.code.proofs.Zipped.{Left}
use Rattle.code.proofs.sameness.same_patterns.Given as goal

-- the other patterns decide
abbrev pub invariant-loop-p : goal.invariant-loop-p
invariant-loop-p l = Left patterns_alike l.p-iterator.a.rest.now l.p-iterator.b.rest.now l.ps.value.items l.qs.value.items
