use Rattle.stepper_streams.proofs.Giving.{tells_both}
use Rattle.stepper_printing.proofs.value.put_broken.Goals as goal

pub returns : goal.returns
returns g c = tells_both g.W.Write.contents c.put.ensures (tells_both g.W.Write.contents c.put_quoted.ensures c.put-2.ensures)
