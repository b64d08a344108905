use Rattle.std.proofs.Common.{ap, sym, ◌∙◌, ◌++◌, codes}
use Rattle.std.specs.Option.{option_map}
use Rattle.kernele.specs.Spelling.{bound_name}
use Rattle.post.specs.DeliveryView.{handler_of}
use Rattle.stepper_questions.specs.Deliveries.{handler_text}
use Rattle.stepper_questions.proofs.Telling.{block_spelled}
use Rattle.stepper_questions.proofs.message.caught_by.Goals as goal

pub returns-in_ok-program_text-in-Some : goal.returns-in_ok-program_text-in-Some
returns-in_ok-program_text-in-Some c = ap (λ b. codes " catch " ++ (bound_name c.in-Some.handler.pattern ++ (codes " " ++ b))) (block_spelled _ _ c.in_ok-program_text-in-Some.ensures) ∙ ap (λ h. handler_text (option_map handler_of h)) (sym c.in-Some.is)

pub returns-in-None : goal.returns-in-None
returns-in-None c = ap (λ h. handler_text (option_map handler_of h)) (sym c.in-None.is)
