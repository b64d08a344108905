use Rattle.stepper_streams.proofs.Giving.{tells_both}
use Rattle.stepper.proofs.reply.put_settled.Goals as goal

pub returns : goal.returns
returns g c = tells_both g.W.Write.contents c.put.ensures (tells_both g.W.Write.contents c.put_number.ensures c.put-2.ensures)
