-- What the answer of an evaluation says of its end, with the place for its value and what the turn works on. Where there was no
-- memory it says nothing.
use Rattle.std.specs.Prelude.{Result, Ok, Err, ⊤}
use Rattle.values.specs.View.{val_of}
use Rattle.values.specs.declared.value.Value.{Value}
use Rattle.eval_rules.specs.At.{At}
use Rattle.eval_rules.specs.Outcomes.{Halt, End, value, halt}
use Rattle.eval_rules.specs.View.{at, halt_of}
use Rattle.eval_rules.specs.declared.end.Stop.{Stop}
use Rattle.eval_rules.specs.declared.end.Stop.TheVariants as stop
use Rattle.eval_rules.specs.declared.working.Working.{Working}

-- for a stop: this holds of the halt, and of where the turn stands then
abbrev pub OnStop : Stop → Working → (Halt → At → Type 0) → Type 0
OnStop stop.Memory w Q = ⊤
OnStop stop.Halted w Q = Q (halt_of w.halt) (at w)

-- for an answer: the first of what it gives, the second of a halt
abbrev pub OnAnswer : {A : Type 0} → Result A Stop → Working → (A → At → Type 0) → (Halt → At → Type 0) → Type 0
OnAnswer (Ok x) w P Q = P x (at w)
OnAnswer (Err s) w P Q = OnStop s w Q

-- for an evaluation whose value is put into a place: this holds of its end
abbrev pub OnEnd : {A : Type 0} → Result A Stop → Value → Working → (End → At → Type 0) → Type 0
OnEnd answer v w P = OnAnswer answer w (λ u b. P (value (val_of v)) b) (λ h b. P (halt h) b)
