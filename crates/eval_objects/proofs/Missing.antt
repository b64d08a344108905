-- A name that an object is to capture and that stands for nothing.
use Rattle.std.proofs.Common.{◌≡◌, ap, ◌∙◌}
use Rattle.kernele.specs.Tree.{Name, Methods}
use Rattle.kernele.specs.declared.tree.Pattern.{Pattern}
use Rattle.eval_rules.specs.At.{At}
use Rattle.eval_rules.specs.Outcomes.{halt}
use Rattle.eval_rules.specs.Rules.{Capture, missing, undefined_noun, object_end, with_object}
use Rattle.eval_rules.specs.Answered.{OnStop}
use Rattle.eval_rules.specs.declared.end.Stop.{Stop}
use Rattle.eval_rules.specs.declared.end.Stop.TheVariants as stop
use Rattle.eval_rules.specs.declared.working.Working.{Working}

-- it throws, and is the first that is missing
pub missing_here : (s : Stop) (w : Working) (x : Name) (all : Capture) (z u : At) → missing x ≡ all → z ≡ u → OnStop s w (λ h b. (halt h ≡ undefined_noun x) × (b ≡ z)) → OnStop s w (λ h b. (y : Name) × (missing y ≡ all) × (halt h ≡ undefined_noun y) × (b ≡ u))
missing_here stop.Memory w x all z u e f p = tt
missing_here stop.Halted w x all z u e f p = (x, e, p.0, p.1 ∙ f)

-- no object is made then
pub none_made : (s : Stop) (w : Working) (p : Pattern) (ms : Methods) (all d : Capture) (a z u : At) → all ≡ d → z ≡ u → OnStop s w (λ h b. (y : Name) × (missing y ≡ all) × (halt h ≡ undefined_noun y) × (b ≡ z))
    → OnStop s w (λ h b. (halt h ≡ object_end d a) × (b ≡ with_object p ms d u))
none_made stop.Memory w p ms all d a z u e f h = tt
none_made stop.Halted w p ms all d a z u e f h = (
  h.2 ∙ ap (λ m. object_end m a) (h.1 ∙ e),
  h.3 ∙ f ∙ ap (λ m. with_object p ms m u) (h.1 ∙ e),
)
