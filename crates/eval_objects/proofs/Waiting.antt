-- A when, once its names are captured.
use Rattle.std.proofs.Common.{◌≡◌, List, [], Option, ap, ◌∙◌}
use Rattle.kernele.specs.Tree.{Name, Trees}
use Rattle.values.specs.Data.{Val}
use Rattle.heap.specs.State.{Nouns}
use Rattle.post.specs.Delivery.{Handler}
use Rattle.eval_rules.specs.At.{At}
use Rattle.eval_rules.specs.Doings.{given_by, behind, wait_of, wait_end, wait_out}
use Rattle.eval_rules.specs.Outcomes.{value, halt}
use Rattle.eval_rules.specs.Rules.{captured, missing, all_captured, all_sought, handled_names, when_capturing, waited_end, waited, when_end, when_made, undefined_noun}
use Rattle.eval_rules.specs.Answered.{OnStop}
use Rattle.eval_rules.specs.declared.end.Stop.{Stop}
use Rattle.eval_rules.specs.declared.end.Stop.TheVariants as stop
use Rattle.eval_rules.specs.declared.working.Working.{Working}

-- what it gives and leaves
pub waits_end : (body : Trees) (handler : Option Handler) (ns : Nouns) (xs : List Name) (v : Val) (a b : At) → xs ≡ handled_names body handler → captured ns ≡ all_captured (captured []) xs a → b ≡ all_sought (captured []) xs a
    → wait_end (given_by (wait_of v b) b) b ≡ when_end body handler (value v) a
waits_end body handler ns xs v a b names q e =
    λ i. waited_end ((q ∙ ap (λ ys. all_captured (captured []) ys a) names) i) v ((e ∙ ap (λ ys. all_sought (captured []) ys a) names) i)

pub waits_place : (body : Trees) (handler : Option Handler) (ns : Nouns) (xs : List Name) (v : Val) (a b : At) → xs ≡ handled_names body handler → captured ns ≡ all_captured (captured []) xs a → b ≡ all_sought (captured []) xs a
    → wait_out (record { value = v; captured = ns; block = body; handler = handler }) (given_by (wait_of v b) b) (behind (wait_of v b) b) ≡ when_made body handler (value v) a
waits_place body handler ns xs v a b names q e =
    λ i. waited ((q ∙ ap (λ ys. all_captured (captured []) ys a) names) i) body handler v ((e ∙ ap (λ ys. all_sought (captured []) ys a) names) i)

-- none is made where a name is missing
pub none_waits : (s : Stop) (w : Working) (body : Trees) (handler : Option Handler) (xs : List Name) (v : Val) (a : At) → xs ≡ handled_names body handler
    → OnStop s w (λ h b. (y : Name) × (missing y ≡ all_captured (captured []) xs a) × (halt h ≡ undefined_noun y) × (b ≡ all_sought (captured []) xs a))
    → OnStop s w (λ h b. (halt h ≡ when_end body handler (value v) a) × (b ≡ when_made body handler (value v) a))
none_waits stop.Memory w body handler xs v a names h = tt
none_waits stop.Halted w body handler xs v a names h =
    let is = h.1 ∙ ap (λ ys. all_captured (captured []) ys a) names in (
      h.2 ∙ ap (λ m. waited_end m v (when_capturing body handler a)) is,
      h.3 ∙ ap (λ ys. all_sought (captured []) ys a) names ∙ ap (λ m. waited m body handler v (when_capturing body handler a)) is,
    )
