use Rattle.stepper_streams.proofs.Giving.{tells_both}
use Rattle.stepper_printing.proofs.show.put_slot_line.Goals as goal

pub returns : goal.returns
returns g c = tells_both g.W.Write.contents c.put.ensures (tells_both g.W.Write.contents c.put_slot.ensures (tells_both g.W.Write.contents c.put-2.ensures (tells_both g.W.Write.contents c.put_value.ensures c.put-3.ensures)))
