use Rattle.event.proofs.Law.{events_laws, noted_laws, notes_once}
use Rattle.event.proofs.theorems.events_obey_the_law.Goals as goal

pub returns : goal.returns
returns c = record { alone = events_laws; noted = noted_laws; once = notes_once }
