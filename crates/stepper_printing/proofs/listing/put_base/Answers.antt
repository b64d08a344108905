use Rattle.std.proofs.Common.{◌<◌, sym, arith}
use Rattle.stepper_streams.proofs.Giving.{tells_both, tells_as}
use Rattle.stepper_printing.proofs.EventNames.{base_some}
use Rattle.stepper_printing.proofs.listing.put_base.Goals as goal

pub returns : goal.returns
returns g c =
    let some : 0 < c.args.count = grind (arith, c.if-count-eq0.false) in
    tells_as g.W.Write.contents (sym (base_some c.args.count some)) (tells_both g.W.Write.contents c.put-2.ensures (tells_both g.W.Write.contents c.put_number.ensures c.put-3.ensures))
