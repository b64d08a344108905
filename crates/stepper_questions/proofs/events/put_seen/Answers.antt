use Rattle.stepper_streams.proofs.Giving.{tells_both, tells_as}
use Rattle.stepper_questions.proofs.events.put_seen.Goals as goal

pub returns : goal.returns
returns g c = tells_both g.W.Write.contents (tells_as g.W.Write.contents c.verb.ensures c.put.ensures) (tells_both g.W.Write.contents c.put_cell.ensures (tells_both g.W.Write.contents c.put-2.ensures (tells_both g.W.Write.contents c.put_writer.ensures c.put-3.ensures)))
