use Rattle.stepper_streams.proofs.Giving.{tells_both}
use Rattle.stepper_questions.proofs.reason.put_chain.Goals as goal

pub returns : goal.returns
returns g c = tells_both g.W.Write.contents c.put_number.ensures (tells_both g.W.Write.contents c.put.ensures c.put_links.ensures)
