use Rattle.std.proofs.Common.{ap}
use Rattle.heap.specs.View.{nouns_of}
use Rattle.stepper_questions.specs.Deliveries.{captured_lines}
use Rattle.stepper_streams.proofs.Giving.{tells_both, tells_as}
use Rattle.stepper_questions.proofs.Telling.{read_items}
use Rattle.stepper_questions.proofs.message.put_waiting.Goals as goal

pub returns : goal.returns
returns g c =
    let nouns = tells_as g.W.Write.contents (ap (λ xs. captured_lines (nouns_of xs)) (read_items _ _ _ c.as_slice.ensures.value c.deref.ensures)) c.put_captured.ensures in
    tells_both g.W.Write.contents c.put.ensures (tells_both g.W.Write.contents c.put_value.ensures (tells_both g.W.Write.contents c.put-2.ensures (tells_both g.W.Write.contents c.put_block.ensures (tells_both g.W.Write.contents c.put_caught.ensures (tells_both g.W.Write.contents c.put-3.ensures nouns)))))
