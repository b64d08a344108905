use Rattle.stepper_streams.proofs.Giving.{tells_both}
use Rattle.stepper_questions.proofs.object.put_first_and.Goals as goal

pub returns : goal.returns
returns g c = tells_both g.W.Write.contents c.put_pattern.ensures c.put_more.ensures
