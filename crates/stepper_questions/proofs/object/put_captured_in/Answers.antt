use Rattle.std.proofs.Common.{ap, sym, ◌∙◌}
use Rattle.heap.specs.View.{nouns_of, object_of}
use Rattle.stepper_streams.proofs.Giving.{tells_as}
use Rattle.stepper_questions.specs.Deliveries.{captured_lines}
use Rattle.stepper_questions.specs.ObjectView.{captured_in}
use Rattle.stepper_questions.proofs.Telling.{read_items}
use Rattle.stepper_questions.proofs.object.put_captured_in.Goals as goal

pub returns-in-Plain : goal.returns-in-Plain
returns-in-Plain g c = tells_as g.W.Write.contents (ap (λ xs. captured_lines (nouns_of xs)) (read_items _ _ _ c.as_slice.ensures.value c.deref.ensures) ∙ ap (λ o. captured_in (object_of o)) (sym c.in-Plain.is)) c.put_captured.ensures
