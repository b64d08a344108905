use Rattle.stepper_streams.proofs.Giving.{tells_both}
use Rattle.stepper_printing.proofs.names.put_event.Goals as goal

pub returns : goal.returns
returns g c = tells_both g.W.Write.contents c.put.ensures c.put_number.ensures
