use Rattle.eorder.proofs.Journals.{live_entries_ran, live_entries_keep}
use Rattle.eorder.proofs.theorems.journals_keep_order.Goals as goal

pub returns-clause-ran : goal.returns-clause-ran
returns-clause-ran g c = live_entries_ran g.R.Recorded.subject g.R.Recorded.doing g.R.Recorded.laws g.R.Recorded.all_do

pub returns-clause-order : goal.returns-clause-order
returns-clause-order g c = live_entries_keep g.R.Recorded.subject g.R.Recorded.doing g.R.Recorded.steps
