use Rattle.std.proofs.Common.{ap, ◌∙◌}
use Rattle.values.specs.Shown.{shown_items}
use Rattle.values.specs.View.{vals_of}
use Rattle.stepper_streams.proofs.Giving.{tells_both, tells_as}
use Rattle.stepper_questions.proofs.Telling.{read_items}
use Rattle.stepper_questions.proofs.message.put_call.Goals as goal

pub returns : goal.returns
returns g c =
    let vs = tells_as g.W.Write.contents (ap (λ xs. shown_items (vals_of xs)) (read_items _ _ _ c.as_slice.ensures.value c.deref.ensures)) c.put_values.ensures in
    tells_both g.W.Write.contents c.put.ensures (tells_both g.W.Write.contents c.put_value.ensures (tells_both g.W.Write.contents c.put-2.ensures (tells_both g.W.Write.contents (tells_as g.W.Write.contents (c.as_str.ensures ∙ c.text.ensures) c.put-3.ensures) (tells_both g.W.Write.contents c.put-4.ensures (tells_both g.W.Write.contents vs c.put-5.ensures)))))
