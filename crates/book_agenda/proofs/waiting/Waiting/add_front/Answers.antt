use Rattle.std.proofs.Common.{refl}
use Rattle.book_agenda.proofs.waiting.Waiting.add_front.Goals as goal

pub returns : goal.returns
returns c = record { all = refl; ready = refl; fronts = c.in_ok-insert.ensures.updates.0 }
