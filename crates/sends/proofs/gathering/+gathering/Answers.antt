use Rattle.std.proofs.Common.{◌≤◌, arith}
use Rattle.values.specs.Limits.{weight, weights}
use Rattle.values.specs.View.{val_of, vals_of}
use Rattle.values.proofs.Weighing.{item_weighs}
use Rattle.sends.specs.Vats.{each_once, references_in}
use Rattle.sends.proofs.EachOnce.{gather_next}
use Rattle.sends.proofs.gathering.+gathering.Goals as goal

pub gather_all-gather-requires : goal.gather_all-gather-requires
gather_all-gather-requires t c =
    let w : weight (val_of c.value-item.result) ≤ weights (vals_of c.args.values.now) = item_weighs c.args.values.now c.loop-value.value-index c.value-item.result c.loop-value-test.true c.value-item.is in
    (omega arith, tt)

pub gather_all-loop-value-preserved : goal.gather_all-loop-value-preserved
gather_all-loop-value-preserved t c =
    gather_next (each_once c.args.found.now.keys (references_in (vals_of c.args.values.now))) c.loop-value.found.keys c.gather.new.found.keys c.args.values.now c.loop-value.value-index c.value-item.result c.loop-value-test.true c.value-item.is c.loop-value.invariant c.in_ok-gather.ensures
