use Rattle.std.proofs.Common.{◌++◌, [], sym, subst}
use Rattle.std.specs.List.{IsDistinct}
use Rattle.std.specs.Map.{keys_of}
use Rattle.cells.proofs.few.Few.new.Goals as goal

pub invariant_of-result : goal.invariant_of-result
unfolding IsDistinct
invariant_of-result g c = subst (λ l. IsDistinct g.K.PartialEq.eq (keys_of (l ++ []))) (sym c.new.ensures.items) tt
