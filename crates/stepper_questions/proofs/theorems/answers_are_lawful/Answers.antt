use Rattle.stepper_questions.proofs.Consequences.{chains_are_consequences}
use Rattle.stepper_questions.proofs.Explaining.{refusals_are_explained}
use Rattle.stepper_questions.proofs.theorems.answers_are_lawful.Goals as goal

pub returns : goal.returns
returns c = record { consequences = chains_are_consequences; refusals = refusals_are_explained }
