use Rattle.std.proofs.Common.{arith}
use Rattle.std.proofs.lemmas.Grind.{common_steps}
use Rattle.causewaylog.proofs.Living.{called_from}
use Rattle.causewaylog.proofs.turns.open_vat.Goals as goal

pub returns-in-Some : goal.returns-in-Some
returns-in-Some c =
    let step = called_from c.args.name.now c.args.entries.now c.loop-entry.entry-index c.entry-item.result c.loop-entry-test.true c.entry-item.is in
    grind (arith, common_steps)

pub loop-entry-preserved : goal.loop-entry-preserved
loop-entry-preserved c =
    let step = called_from c.args.name.now c.args.entries.now c.loop-entry.entry-index c.entry-item.result c.loop-entry-test.true c.entry-item.is in
    grind (arith, common_steps)
