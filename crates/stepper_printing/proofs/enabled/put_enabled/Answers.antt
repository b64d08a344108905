use Rattle.std.proofs.Common.{◌≡◌, ap, length, arith}
use Rattle.std.specs.Fmt.{decimal}
use Rattle.stepper_streams.proofs.Giving.{tells_both, tells_as}
use Rattle.stepper_printing.specs.Steps.{step_lines}
use Rattle.stepper_printing.proofs.enabled.put_enabled.Goals as goal

pub returns : goal.returns
returns g c =
    let many : c.len.result ≡ length c.args.choice.now.steps.items = grind (arith, c.len.ensures) in
    let count = tells_as g.W.Write.contents (ap decimal many) c.put_number.ensures in
    let steps = tells_as g.W.Write.contents (ap (step_lines c.args.choice.now.vats.entries) c.deref.ensures.value) c.put_steps.ensures in
    tells_both g.W.Write.contents c.put.ensures (tells_both g.W.Write.contents count (tells_both g.W.Write.contents c.put-2.ensures steps))
