use Rattle.std.proofs.Common.{ap, ◌∙◌}
use Rattle.post.specs.declared.message.Sent.{Sent}
use Rattle.stepper_printing.specs.Show.{names_text}
use Rattle.stepper_streams.proofs.Giving.{tells_both, tells_as}
use Rattle.stepper_questions.proofs.message.put_told_message.Goals as goal

pub returns : goal.returns
returns g c =
    let names = tells_as g.W.Write.contents (ap names_text (c.names.ensures.names ∙ ap (λ (s : Sent). s.after) c.deref.ensures)) c.put_names.ensures in
    tells_both g.W.Write.contents c.put_message_line.ensures (tells_both g.W.Write.contents c.put.ensures (tells_both g.W.Write.contents names (tells_both g.W.Write.contents c.put-2.ensures c.put_delivered.ensures)))
