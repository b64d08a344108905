use Rattle.eorder.proofs.Covering.{fences_cover, fences_have_no_more}
use Rattle.eorder.proofs.theorems.fences_cover.Goals as goal

pub returns-clause-covered : goal.returns-clause-covered
returns-clause-covered c = fences_cover

pub returns-clause-no_more : goal.returns-clause-no_more
returns-clause-no_more c = fences_have_no_more
