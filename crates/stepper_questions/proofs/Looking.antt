-- What a map of names has of a name.
use Rattle.std.proofs.Common.{◌≡◌, ◌==◌, cond, List, Some, sym, ◌∙◌}
use Rattle.std.specs.BTreeMap.{is_at}
use Rattle.std.specs.Map.{lookup}
use Rattle.ids.specs.contracts.names.EventNameOrd.TheImpl.{cmp-value}
use Rattle.ids.specs.declared.names.EventName.{EventName}
use Rattle.causality.proofs.Numbered.{by_name}
use Rattle.stepper_questions.specs.ChainView.{near_of}
use Rattle.stepper_questions.specs.declared.chain.Near.{Near}

-- it is looked up by its number
pub looked_up : (es : List (EventName × Near)) (e : EventName) → lookup (is_at (cmp-value.it e)) es ≡ near_of es e
looked_up es e = λ i. lookup (λ n. by_name e n i) es

-- one more name
pub put : (old new : List (EventName × Near)) (k : EventName) (x : Near)
    → ((q : EventName) → lookup (is_at (cmp-value.it q)) new ≡ cond (is_at (cmp-value.it k) q) (Some x) (lookup (is_at (cmp-value.it q)) old))
    → (e : EventName) → near_of new e ≡ cond (e.0 == k.0) (Some x) (near_of old e)
put old new k x updates e = sym (looked_up new e) ∙ updates e ∙ (λ i. cond (by_name k e i) (Some x) (looked_up old e i))
