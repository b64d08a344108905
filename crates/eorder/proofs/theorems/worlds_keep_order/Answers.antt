use Rattle.eorder.proofs.Worlds.{cells_cover, events_keep, runs_stay_settled}
use Rattle.eorder.proofs.theorems.worlds_keep_order.Goals as goal

pub returns-clause-covered : goal.returns-clause-covered
returns-clause-covered g c = cells_cover g.F.Fenced.worlds g.F.Fenced.steps

pub returns-clause-order : goal.returns-clause-order
returns-clause-order g c = events_keep g.F.Fenced.worlds g.F.Fenced.steps

pub returns-clause-settled : goal.returns-clause-settled
returns-clause-settled g c = runs_stay_settled g.F.Fenced.worlds g.F.Fenced.steps
