use Rattle.stepper_streams.proofs.Giving.{tells_both}
use Rattle.stepper_questions.proofs.events.put_told_event.Goals as goal

pub returns : goal.returns
returns g c = tells_both g.W.Write.contents c.put_entry.ensures c.put_cells.ensures
