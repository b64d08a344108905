use Rattle.std.proofs.Common.{ap, sym}
use Rattle.stepper_questions.specs.Refusals.{unanswered_text}
use Rattle.stepper_streams.proofs.Giving.{tells_as}
use Rattle.stepper.proofs.words.put_unanswered.Goals as goal

pub returns-in-NoObject : goal.returns-in-NoObject
returns-in-NoObject g c = tells_as g.W.Write.contents (ap unanswered_text (sym c.in-NoObject.is)) c.put_about_object.ensures
