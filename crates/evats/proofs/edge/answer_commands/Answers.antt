use Rattle.stepper.proofs.Scripting.{not_both}
use Rattle.evats.specs.Edge.{no_block, ran}
use Rattle.evats.proofs.Edges.{runs_as}
use Rattle.evats.proofs.edge.answer_commands.Goals as goal

pub run-requires-clause-sound : goal.run-requires-clause-sound
run-requires-clause-sound g c = λ e. not_both _ _ c.in-Ok.ensures.open e

pub returns-in-Ok : goal.returns-in-Ok
returns-in-Ok g c =
    let source = c.in-Ok.source in
    let sink = c.new-sink.result in
    ran source c.run.new.source sink c.run.new.sink (record { from = c.in-Ok.ensures.reader; none_read = c.in-Ok.ensures.none_read; none_failed = c.in-Ok.ensures.none_failed; unended = c.in-Ok.ensures.open })
    (record { to = c.new-sink.ensures.writer; none_waits = c.new-sink.ensures.none_waits; none_failed = c.new-sink.ensures.none_failed })
    (runs_as g.I.Read.remaining g.O.Write.contents c.args.limits source c.run.new.source sink c.run.new.sink c.run.result c.run.ensures.ok c.run.ensures.err) c.run.ensures.all_out

pub returns-in-Err : goal.returns-in-Err
returns-in-Err g c = no_block
