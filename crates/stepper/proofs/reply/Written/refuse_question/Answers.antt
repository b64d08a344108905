use Rattle.std.proofs.Common.{sym}
use Rattle.stepper_streams.proofs.Giving.{tells_both}
use Rattle.stepper.proofs.Answered.{or_true}
use Rattle.stepper.proofs.reply.Written.refuse_question.Goals as goal

pub returns : goal.returns
returns g c = record { tells = tells_both g.W.Write.contents c.put.ensures (tells_both g.W.Write.contents c.put_unanswered.ensures c.put-2.ensures); refused = sym (or_true c.args.self.now.refused) }
