use Rattle.std.proofs.Common.{ap}
use Rattle.stepper_streams.proofs.Giving.{tells_both, tells_as}
use Rattle.stepper_printing.specs.PictureView.{homes_text}
use Rattle.stepper_printing.proofs.show.put_world.Goals as goal

pub returns : goal.returns
returns g c = tells_both g.W.Write.contents (tells_as g.W.Write.contents (ap homes_text c.deref.ensures.value) c.put_homes.ensures) (tells_both g.W.Write.contents c.put_messages.ensures c.put_board.ensures)
