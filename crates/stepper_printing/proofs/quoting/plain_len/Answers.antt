use Rattle.std.proofs.Common.{sym}
use Rattle.stepper_printing.proofs.Plains.{plain_next}
use Rattle.stepper_printing.proofs.quoting.plain_len.Goals as goal

pub loop-byte-preserved : goal.loop-byte-preserved
loop-byte-preserved c = plain_next c.args.bytes.now c.loop-byte.len c.loop-byte.byte-index _ c.loop-byte.invariant.0 c.loop-byte-test.true (sym c.if-not-is_plain.ensures) c.loop-byte.invariant.1
