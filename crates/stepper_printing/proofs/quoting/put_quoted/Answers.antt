use Rattle.std.proofs.Common.{ap}
use Rattle.std.specs.List.{flat_map}
use Rattle.ids.specs.Quoted.{quoted_byte}
use Rattle.stepper_streams.proofs.Giving.{tells_both, tells_as}
use Rattle.stepper_printing.proofs.quoting.put_quoted.Goals as goal

pub returns : goal.returns
returns g c = tells_both g.W.Write.contents c.put.ensures (tells_both g.W.Write.contents (tells_as g.W.Write.contents (ap (flat_map quoted_byte) c.as_bytes.ensures.value) c.put_bytes.ensures) c.put-2.ensures)
