use Rattle.std.proofs.Common.{ap, sym, ◌∙◌, codes}
use Rattle.post.specs.DeliveryView.{delivery_of}
use Rattle.stepper_questions.specs.Deliveries.{delivery_lines}
use Rattle.stepper_questions.proofs.Telling.{program_spelled}
use Rattle.stepper_questions.proofs.message.delivered_of.Goals as goal

pub returns-in_ok-program_text-in-Opening : goal.returns-in_ok-program_text-in-Opening
returns-in_ok-program_text-in-Opening c = program_spelled (codes " opening") _ _ c.in_ok-program_text-in-Opening.ensures ∙ ap (λ d. delivery_lines (delivery_of d)) (sym c.in-Opening.is)

pub returns-in_ok-program_text-in-Asked : goal.returns-in_ok-program_text-in-Asked
returns-in_ok-program_text-in-Asked c = program_spelled (codes " asked") _ _ c.in_ok-program_text-in-Asked.ensures ∙ ap (λ d. delivery_lines (delivery_of d)) (sym c.in-Asked.is)

pub returns-in_ok-waiting_in-in-Waiting : goal.returns-in_ok-waiting_in-in-Waiting
returns-in_ok-waiting_in-in-Waiting c = c.in_ok-waiting_in-in-Waiting.ensures ∙ ap (λ d. delivery_lines (delivery_of d)) (sym c.in-Waiting.is)
