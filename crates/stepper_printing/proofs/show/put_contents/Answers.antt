use Rattle.stepper_streams.proofs.Giving.{tells_both}
use Rattle.stepper_printing.proofs.show.put_contents.Goals as goal

pub returns : goal.returns
returns g c = tells_both g.W.Write.contents c.put_nouns.ensures (tells_both g.W.Write.contents c.put_slots.ensures (tells_both g.W.Write.contents c.put_objects.ensures (tells_both g.W.Write.contents c.put_views.ensures c.put_fences.ensures)))
