use Rattle.std.proofs.Common.{sym}
use Rattle.heap.specs.State.{view_cell, viewed}
use Rattle.heap.specs.View.{view_of}
use Rattle.values.specs.View.{val_of}
use Rattle.sends.proofs.Did.{touched_one}
use Rattle.sends.proofs.Publications.{entered_now, not_entered}
use Rattle.sends.proofs.entering.enter_if_come.Goals as goal

pub returns-in-Some-clause-did : goal.returns-in-Some-clause-did
returns-in-Some-clause-did c =
    entered_now c.enter.result c.args.promise (val_of c.args.value.now) (viewed (view_of c.in-Some.field-0.now)) c.args.draft.now c.reach_view.new.self c.enter.new.draft
    (touched_one (view_cell c.args.promise) c.args.draft.now c.reach_view.new.self c.in_ok-reach_view.ensures.state c.in_ok-reach_view.ensures.touched c.in_ok-reach_view.ensures.written)
    (sym c.in-Some.ensures) c.enter.ensures.did

pub returns-in-None-clause-did : goal.returns-in-None-clause-did
returns-in-None-clause-did c =
    not_entered c.args.promise (val_of c.args.value.now) c.args.draft.now c.reach_view.new.self
    (touched_one (view_cell c.args.promise) c.args.draft.now c.reach_view.new.self c.in_ok-reach_view.ensures.state c.in_ok-reach_view.ensures.touched c.in_ok-reach_view.ensures.written)
    (sym c.in-None.ensures)
