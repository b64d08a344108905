-- How an Escape ends.
use Rattle.std.specs.Prelude.{◌≡◌, List, ◌∷◌}
use Rattle.ids.specs.declared.names.EjId.{EjId}
use Rattle.eval_rules.specs.At.{At}
use Rattle.eval_rules.specs.Outcomes.{End}
use Rattle.eval_rules.specs.Rules.{escape_end}

-- the innermost Escape that is being evaluated is that of this ejector
abbrev pub IsNewest : EjId → At → Type 0
IsNewest j a = (older : List EjId) × (a.opened ≡ j ∷ older)

-- the Escape of this ejector ends so, and there, whose block ended in a way of which this holds
abbrev pub Escapes : EjId → (End → At → Type 0) → End → At → Type 0
Escapes j block p b = (o : End) × block o b × (p ≡ escape_end j o)
