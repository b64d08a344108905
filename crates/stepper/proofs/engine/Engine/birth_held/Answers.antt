use Rattle.std.proofs.Common.{refl, subst, ◌∙◌, Ok, List, ℕ}
use Rattle.stepper_commands.specs.Words.{words_in}
use Rattle.stepper_commands.specs.ScriptView.{IsHeld}
use Rattle.stepper.specs.Replies.{AnswersBirth, birth_without_memory}
use Rattle.stepper.proofs.Answered.{happens_as, refuses}
use Rattle.stepper.proofs.engine.Engine.birth_held.Goals as goal

pub returns-in-Some : goal.returns-in-Some
returns-in-Some g c = λ text is.
    let same = c.as_str.ensures.value ∙ subst (λ z. IsHeld z text) c.in-Some.is is in
    happens_as (λ b r s d k. subst (λ (t : List ℕ). AnswersBirth b c.args.name.now (words_in c.args.earlier.now) (Ok t) r s d) same k) c.birth_text.ensures

pub returns-in-None : goal.returns-in-None
returns-in-None g c = λ text is. refuses birth_without_memory c.refuse_call.ensures refl
