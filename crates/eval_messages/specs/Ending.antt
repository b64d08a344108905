-- How an evaluation ends that does something to its vat.
use Rattle.std.specs.Prelude.{◌≡◌}
use Rattle.sends.specs.Vats.{Vat}
use Rattle.eval_rules.specs.At.{At}
use Rattle.eval_rules.specs.Doings.{given_by, behind}
use Rattle.eval_rules.specs.Outcomes.{End}

-- this was done to the vat; what it gave says how the evaluation ends, and what is left
abbrev pub EndsBy : {R : Type 0} → Vat R → (R → End) → (R → At → At) → At → End → At → Type 0
EndsBy doing end leave a o b = (o ≡ end (given_by doing a)) × (b ≡ leave (given_by doing a) (behind doing a))
