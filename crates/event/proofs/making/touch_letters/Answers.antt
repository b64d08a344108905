use Rattle.std.proofs.Common.{ap, arith}
use Rattle.ids.specs.declared.cells.CellKey.TheVariants as key
use Rattle.event.proofs.Adding.{touch_next}
use Rattle.event.proofs.making.touch_letters.Goals as goal

pub loop-place-preserved : goal.loop-place-preserved
loop-place-preserved c =
    touch_next c.args.event c.args.letters.now c.loop-place.place _ c.loop-place.touched.items c.push.new.self.items (key.Msg c.in_ok-name_at.field-0) (omega (arith, c.loop-place-test.true)) c.loop-place.invariant c.in_ok-push.ensures.items
    (ap (λ m. key.Msg m) c.in_ok-name_at.ensures)
