use Rattle.std.proofs.Common.{ap}
use Rattle.stepper_printing.specs.Show.{names_text}
use Rattle.stepper_streams.proofs.Giving.{tells_both, tells_as}
use Rattle.stepper_printing.proofs.show.put_fence_line.Goals as goal

pub returns : goal.returns
returns g c = tells_both g.W.Write.contents c.put.ensures (tells_both g.W.Write.contents c.put_reference.ensures (tells_both g.W.Write.contents c.put-2.ensures (tells_both g.W.Write.contents (tells_as g.W.Write.contents (ap names_text c.names.ensures.names) c.put_names.ensures) c.put-3.ensures)))
