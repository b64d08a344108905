use Rattle.stepper_streams.proofs.Giving.{tells_both}
use Rattle.stepper_questions.proofs.named.put_word_and.Goals as goal

pub returns : goal.returns
returns g c = tells_both g.W.Write.contents c.put.ensures (tells_both g.W.Write.contents c.put-2.ensures (tells_both g.W.Write.contents c.put-3.ensures c.put-4.ensures))
