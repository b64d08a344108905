-- What is evaluated for no value.
use Rattle.std.specs.Prelude.{Result}
use Rattle.values.specs.Data.{Val}
use Rattle.eval_rules.specs.At.{At}
use Rattle.eval_rules.specs.Outcomes.{End, value, halt}
use Rattle.eval_rules.specs.Answered.{OnAnswer}
use Rattle.eval_rules.specs.declared.end.Stop.{Stop}
use Rattle.eval_rules.specs.declared.working.Working.{Working}

-- for an answer: this holds of some value as its end, or of its halt
abbrev pub OnSomeEnd : {A : Type 0} → Result A Stop → Working → (End → At → Type 0) → Type 0
OnSomeEnd answer w P = OnAnswer answer w (λ u b. (v : Val) × P (value v) b) (λ h b. P (halt h) b)
