use Rattle.std.proofs.Common.{arith}
use Rattle.std.proofs.lemmas.Grind.{common_steps}
use Rattle.causewaylog.proofs.Living.{called_settled}
use Rattle.causewaylog.proofs.turns.settled_vat.Goals as goal

pub returns-in-Some : goal.returns-in-Some
returns-in-Some c =
    let step = called_settled c.args.name.now c.args.settled.now c.loop-event.event-index c.event-item.result c.loop-event-test.true c.event-item.is in
    grind (arith, common_steps)

pub loop-event-preserved : goal.loop-event-preserved
loop-event-preserved c =
    let step = called_settled c.args.name.now c.args.settled.now c.loop-event.event-index c.event-item.result c.loop-event-test.true c.event-item.is in
    grind (arith, common_steps)
