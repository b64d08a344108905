use Rattle.std.proofs.Common.{ap₂, ◌++◌, ◌∷◌, codes}
use Rattle.values.specs.Shown.{shown}
use Rattle.values.specs.View.{val_of}
use Rattle.heap.specs.View.{nouns_of}
use Rattle.stepper_questions.specs.Deliveries.{captured_lines}
use Rattle.stepper_questions.proofs.Telling.{block_spelled}
use Rattle.stepper_questions.proofs.message.waiting_in.Goals as goal

pub returns : goal.returns
returns c =
    let w = c.args.when.now in
    ap₂ (λ block handler. codes " when " ++ (shown (val_of w.value) ++ (codes " -> " ++ (block ++ (handler ++ (10 ∷ captured_lines (nouns_of w.captured.value.items))))))) (block_spelled _ _ c.in_ok-program_text.ensures) c.in_ok-caught_by.ensures
