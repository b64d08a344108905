use Rattle.stepper_streams.proofs.Giving.{tells_both, tells_as}
use Rattle.stepper_questions.proofs.named.put_noun.Goals as goal

pub returns : goal.returns
returns g c = tells_both g.W.Write.contents c.put.ensures (tells_both g.W.Write.contents (tells_as g.W.Write.contents c.as_str.ensures c.put-2.ensures) (tells_both g.W.Write.contents c.put-3.ensures (tells_both g.W.Write.contents c.put_binding.ensures c.put-4.ensures)))
