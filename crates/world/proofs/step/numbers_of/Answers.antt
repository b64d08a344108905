use Rattle.std.proofs.Common.{ap, sym}
use Rattle.post.specs.MessageView.{vat_of}
use Rattle.world_cells.specs.View.{world_of}
use Rattle.world_cells.specs.World.{vat_in}
use Rattle.event.proofs.Naming.{numbers_none, numbers_more, numbers_all}
use Rattle.world.proofs.Naming.{not_named}
use Rattle.world.proofs.step.numbers_of.Goals as goal

pub loop-name-init : goal.loop-name-init
loop-name-init c = numbers_none (world_of c.args.world.now) c.new-numbers.result.items c.new-numbers.ensures.items

pub loop-name-preserved : goal.loop-name-preserved
loop-name-preserved c =
    numbers_more (world_of c.args.world.now) c.args.names.now c.loop-name.name-index c.name-item.result (vat_of c.in-Some.vat.now) c.loop-name.numbers.items c.push.new.self.items c.loop-name-test.true c.name-item.is (ap vat_in (sym c.in-Some.ensures))
    c.in_ok-push-in-Some.ensures.items c.loop-name.invariant

pub returns-in-None-clause-err : goal.returns-in-None-clause-err
returns-in-None-clause-err c = not_named (world_of c.args.world.now) c.args.names.now c.loop-name.name-index c.name-item.result c.loop-name-test.true c.name-item.is (ap vat_in (sym c.in-None.ensures))

pub returns-clause-ok : goal.returns-clause-ok
returns-clause-ok c = numbers_all (world_of c.args.world.now) c.args.names.now c.loop-name.name-index c.loop-name.numbers.items c.loop-name-test.false c.loop-name.invariant
