use Rattle.event_publishing.proofs.Publishing.{new_promises, all_counts, journals_publish, publications_stay}
use Rattle.event_publishing.proofs.theorems.promises_are_published_once.Goals as goal

pub returns-clause-promises : goal.returns-clause-promises
returns-clause-promises c = new_promises

pub returns-clause-counts : goal.returns-clause-counts
returns-clause-counts c = all_counts

pub returns-clause-journals : goal.returns-clause-journals
returns-clause-journals c = journals_publish

pub returns-clause-stays : goal.returns-clause-stays
returns-clause-stays c = publications_stay
