-- Calls whose end is a halt.
use Rattle.std.proofs.Common.{◌≡◌, ap, ◌∙◌}
use Rattle.eval_rules.specs.At.{At}
use Rattle.eval_rules.specs.Outcomes.{End, halt}
use Rattle.eval_rules.specs.Rules.{Target, gives}
use Rattle.eval_rules.specs.Answered.{OnStop}
use Rattle.eval_rules.specs.declared.end.Stop.{Stop}
use Rattle.eval_rules.specs.declared.end.Stop.TheVariants as stop
use Rattle.eval_rules.specs.declared.working.Working.{Working}

pub stops_call : (s : Stop) (w : Working) (x : End) (y : Target) (z u : At) → gives x ≡ y → z ≡ u → OnStop s w (λ h b. (halt h ≡ x) × (b ≡ z)) → OnStop s w (λ h b. (gives (halt h) ≡ y) × (b ≡ u))
stops_call stop.Memory w x y z u e f p = tt
stops_call stop.Halted w x y z u e f p = (ap gives p.0 ∙ e, p.1 ∙ f)
