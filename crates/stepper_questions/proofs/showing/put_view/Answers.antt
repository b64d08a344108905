use Rattle.stepper_streams.proofs.Giving.{tells_both}
use Rattle.stepper_questions.proofs.showing.put_view.Goals as goal

pub returns : goal.returns
returns g c = tells_both g.W.Write.contents c.put.ensures (tells_both g.W.Write.contents c.put_event.ensures (tells_both g.W.Write.contents c.put-2.ensures c.put_promise.ensures))
