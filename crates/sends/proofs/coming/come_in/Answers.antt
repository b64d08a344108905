use Rattle.std.proofs.Common.{sym}
use Rattle.heap.specs.State.{view_cell, viewed}
use Rattle.heap.specs.View.{view_of}
use Rattle.sends.proofs.Did.{touched_one, did_come_before}
use Rattle.sends.proofs.Steps.{came_now}
use Rattle.sends.proofs.coming.come_in.Goals as goal

pub returns-in-Some-clause-did : goal.returns-in-Some-clause-did
returns-in-Some-clause-did c =
    did_come_before c.args.promise (viewed (view_of c.in-Some.field-0.now)) c.args.draft.now c.reach_view.new.self
    (touched_one (view_cell c.args.promise) c.args.draft.now c.reach_view.new.self c.in_ok-reach_view.ensures.state c.in_ok-reach_view.ensures.touched c.in_ok-reach_view.ensures.written)
    (sym c.in-Some.ensures)

pub returns-in-None-clause-did : goal.returns-in-None-clause-did
returns-in-None-clause-did c =
    came_now c.write_view.result c.args.promise c.args.draft.now c.reach_view.new.self c.write_view.new.self
    (touched_one (view_cell c.args.promise) c.args.draft.now c.reach_view.new.self c.in_ok-reach_view.ensures.state c.in_ok-reach_view.ensures.touched c.in_ok-reach_view.ensures.written)
    c.in-None.ensures (c.write_view.ensures.ok, (c.write_view.ensures.touched, c.write_view.ensures.written))
