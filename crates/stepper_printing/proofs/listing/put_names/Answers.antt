use Rattle.std.proofs.Common.{ap, refl}
use Rattle.std.proofs.lemmas.List.{drop_all, drop_more}
use Rattle.stepper_streams.proofs.Giving.{tells_both, leads_first, leads_more, leads_all}
use Rattle.stepper_printing.specs.Listing.{names_text}
use Rattle.stepper_printing.proofs.listing.put_names.Goals as goal

pub loop-name-init : goal.loop-name-init
loop-name-init g c = leads_first g.W.Write.contents c.args.out.now refl

pub loop-name-preserved : goal.loop-name-preserved
loop-name-preserved g c = leads_more g.W.Write.contents _ _ c.loop-name.invariant (tells_both g.W.Write.contents c.put.ensures c.put_event.ensures) (ap names_text (drop_more c.args.names.now c.loop-name.name-index _ c.loop-name-test.true))

pub returns : goal.returns
returns g c = leads_all g.W.Write.contents c.loop-name.invariant (ap names_text (drop_all c.loop-name.name-index c.args.names.now c.loop-name-test.false))
