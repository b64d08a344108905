-- What a condition leads to.
use Rattle.std.specs.Prelude.{◌≡◌, ℕ, Bool, Result}
use Rattle.kernele.specs.Tree.{Tree}
use Rattle.eval_rules.specs.At.{At}
use Rattle.eval_rules.specs.Outcomes.{End, halt}
use Rattle.eval_rules.specs.Rules.{Needs, choice_of, goes, ends}
use Rattle.eval_rules.specs.Answered.{OnAnswer}
use Rattle.eval_rules.specs.declared.end.Stop.{Stop}
use Rattle.eval_rules.specs.declared.working.Working.{Working}

-- at level k, from this place, the condition was evaluated, and the answer is what its end leads to
abbrev pub Chooses : Result Bool Stop → Working → ℕ → Tree → At → Type 0
Chooses answer w k t a = OnAnswer answer w (λ q b. (o : End) × Needs k t a o b × (choice_of o ≡ goes q)) (λ h b. (o : End) × Needs k t a o b × (choice_of o ≡ ends (halt h)))
