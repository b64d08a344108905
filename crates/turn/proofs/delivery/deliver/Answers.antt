use Rattle.std.proofs.Common.{ap, refl, ◌∙◌}
use Rattle.heap.specs.View.{state_of}
use Rattle.post.specs.DeliveryView.{delivery_of}
use Rattle.turn_deliveries.specs.Turn.{start}
use Rattle.turn.specs.Runs.{is_opening}
use Rattle.turn.proofs.Meeting.{came_to}
use Rattle.turn.proofs.delivery.deliver.Goals as goal

pub returns : goal.returns
returns c =
    let begun = c.begin-w.ensures ∙ ap (λ z. start (is_opening (delivery_of c.deref-sent.result.now.delivery)) c.args.event c.args.vat (state_of z) c.args.budget) c.in_ok-state.ensures in
    let ended = c.in_ok-ended.ensures in
    let found = c.in_ok-footprint.ensures in
    let came = came_to c.args.message.now ended.0 ended.1 _ c.deref-sent.ensures begun ended.2
    (ended.3 _ (record { touched = found.touched; written = found.written; found = found.found; ended = refl; steps = refl; out = refl })) in
    record { found = came.0; meets = came.1 }
