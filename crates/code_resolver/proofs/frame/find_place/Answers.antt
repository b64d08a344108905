use Rattle.std.proofs.Common.{◌∙◌, rules}
use Rattle.code_resolver.proofs.Places.{place_here, place_on}
use Rattle.code_resolver.proofs.frame.find_place.Goals as goal

pub returns-then-eq : goal.returns-then-eq
returns-then-eq c = place_here _ _ _ _ c.in-Some.ensures.cases.0 (search rules) ∙ c.loop-newest.invariant

pub loop-newest-preserved : goal.loop-newest-preserved
loop-newest-preserved c = place_on _ _ _ _ c.in-Some.ensures.cases.0 (search rules) ∙ c.loop-newest.invariant
