use Rattle.std.proofs.Common.{option_map, ap}
use Rattle.values.specs.View.{val_of, vals_of}
use Rattle.sends.proofs.AllSettled.{settle_next, settle_none, settle_last}
use Rattle.sends.proofs.Playing.{same_turn}
use Rattle.sends.proofs.sending.settle_all.Goals as goal

pub returns-in-None-clause-did : goal.returns-in-None-clause-did
returns-in-None-clause-did c =
    settle_none (vals_of c.args.values.now) c.args.values.now c.loop-value.row.items c.loop-value.value-index c.value-item.result (option_map val_of c.in_ok-settled.field-0) c.args.draft.now c.loop-value.draft c.settle.new.draft
    c.loop-value-test.true c.value-item.is c.loop-value.invariant.0 c.in_ok-settled.ensures.did (ap (option_map val_of) c.in-None.is)

pub loop-value-preserved : goal.loop-value-preserved
loop-value-preserved c = (
  settle_next (vals_of c.args.values.now) c.args.values.now c.loop-value.row.items c.push.new.self.items c.loop-value.value-index c.value-item.result c.in-Some.settled (option_map val_of c.in_ok-settled.field-0) c.args.draft.now c.loop-value.draft c.settle.new.draft
      c.loop-value-test.true c.value-item.is c.loop-value.invariant.0 c.in_ok-settled.ensures.did (ap (option_map val_of) c.in-Some.is) c.in_ok-push-in-Some.ensures.items,
  same_turn c.args.draft.now c.loop-value.draft c.settle.new.draft c.loop-value.invariant.1 c.settle.ensures.turn,
)

pub returns-clause-did : goal.returns-clause-did
returns-clause-did c = settle_last (vals_of c.args.values.now) c.args.values.now c.loop-value.row.items c.loop-value.value-index c.args.draft.now c.loop-value.draft c.loop-value-test.false c.loop-value.invariant.0
