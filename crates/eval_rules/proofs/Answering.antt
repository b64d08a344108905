-- What is said of an answer, from what is said of the answers before it.
use Rattle.std.proofs.Common.{◌≡◌, ℕ, List, subst, sym, ap, ◌∙◌}
use Rattle.std.specs.Prelude.{Result, Ok, Err, IfOk, IsOkAnd, IsErrAnd}
use Rattle.std.specs.declared.alloc.AllocError.{AllocError}
use Rattle.ids.specs.declared.text.Text.{Text}
use Rattle.values.specs.declared.value.Value.{Value}
use Rattle.eval_rules.specs.At.{At}
use Rattle.values.specs.View.{val_of}
use Rattle.eval_rules.specs.Outcomes.{Halt, End, thrown, value, halt}
use Rattle.eval_rules.specs.Answered.{OnStop, OnAnswer, OnEnd}
use Rattle.eval_rules.specs.declared.end.Stop.{Stop}
use Rattle.eval_rules.specs.declared.end.Stop.TheVariants as stop
use Rattle.eval_rules.specs.View.{at, halt_of}
use Rattle.eval_rules.specs.declared.working.Working.{Working}

-- less is said of a stop
pub stop_weaker : (s : Stop) (w : Working) (P Q : Halt → At → Type 0) → ((h : Halt) (b : At) → P h b → Q h b) → OnStop s w P → OnStop s w Q
stop_weaker stop.Memory w P Q f p = tt
stop_weaker stop.Halted w P Q f p = f _ _ p

-- less is said of an end
pub ends_weaker : {A : Type 0} (r : Result A Stop) (v : Value) (w : Working) (P Q : End → At → Type 0) → OnEnd r v w P → ((o : End) (b : At) → P o b → Q o b) → OnEnd r v w Q
ends_weaker (Ok u) v w P Q p f = f _ _ p
ends_weaker (Err s) v w P Q p f = stop_weaker s w (λ h b. P (halt h) b) (λ h b. Q (halt h) b) (λ h b. f (halt h) b) p

-- a stop is handed on, and less is said of it
pub handed_on : {A : Type 0} (r : Result A Stop) (s : Stop) (w : Working) (G : A → At → Type 0) (P Q : Halt → At → Type 0) → IsErrAnd r (λ t. t ≡ s) → OnStop s w P → ((h : Halt) (b : At) → P h b → Q h b) → OnAnswer r w G Q
handed_on (Err t) s w G P Q e p f = stop_weaker t w P Q f (subst (λ s. OnStop s w P) (sym e) p)
handed_on (Ok x) s w G P Q e p f = absurd e

-- without memory nothing is said
pub no_memory : {A : Type 0} {s : Stop} (r : Result A Stop) (w : Working) (P : A → At → Type 0) (Q : Halt → At → Type 0) → r ≡ Err s → s ≡ stop.Memory → OnAnswer r w P Q
no_memory r w P Q e f = subst (λ r. OnAnswer r w P Q) (sym e) (subst (λ s. OnStop s w Q) (sym f) tt)

-- a halt by a problem that was made
pub thrown_as : (made : Result Text AllocError) (o : End) (h : Halt) → IfOk made (λ t. halt (thrown t) ≡ o) → IsOkAnd made (λ t. h ≡ thrown t) → halt h ≡ o
thrown_as (Ok t) o h p q = ap halt q ∙ p
thrown_as (Err e) o h p q = absurd q

-- an end that is known by an equation
pub end_is : {A : Type 0} (r : Result A Stop) (v : Value) (w : Working) (x y : End) (z : At) → x ≡ y → OnEnd r v w (λ o b. (o ≡ x) × (b ≡ z)) → OnEnd r v w (λ o b. (o ≡ y) × (b ≡ z))
end_is r v w x y z e p = subst (λ y. OnEnd r v w (λ o b. (o ≡ y) × (b ≡ z))) e p

pub stop_is : (s : Stop) (w : Working) (x y : End) (z : At) → x ≡ y → OnStop s w (λ h b. (halt h ≡ x) × (b ≡ z)) → OnStop s w (λ h b. (halt h ≡ y) × (b ≡ z))
stop_is s w x y z e p = subst (λ y. OnStop s w (λ h b. (halt h ≡ y) × (b ≡ z))) e p

-- a problem is thrown
pub thrown_end_is : (s : Stop) (w : Working) (t : List ℕ) (y : End) (z : At) → halt (thrown t) ≡ y → OnStop s w (λ h b. (h ≡ thrown t) × (b ≡ z)) → OnStop s w (λ h b. (halt h ≡ y) × (b ≡ z))
thrown_end_is stop.Memory w t y z e p = tt
thrown_end_is stop.Halted w t y z e p = (ap halt p.0 ∙ e, p.1)

-- a problem that was made is thrown
pub made_is : (s : Stop) (w : Working) (made : Result Text AllocError) (t : Text) (z : At) → made ≡ Ok t → OnStop s w (λ h b. (h ≡ thrown t) × (b ≡ z)) → OnStop s w (λ h b. IsOkAnd made (λ problem. h ≡ thrown problem) × (b ≡ z))
made_is s w made t z e p = subst (λ m. OnStop s w (λ h b. IsOkAnd m (λ problem. h ≡ thrown problem) × (b ≡ z))) (sym e) p

pub made_end_is : (s : Stop) (w : Working) (made : Result Text AllocError) (y : End) (z : At) → IfOk made (λ t. halt (thrown t) ≡ y) → OnStop s w (λ h b. IsOkAnd made (λ problem. h ≡ thrown problem) × (b ≡ z)) → OnStop s w (λ h b. (halt h ≡ y) × (b ≡ z))
made_end_is stop.Memory w made y z e p = tt
made_end_is stop.Halted w made y z e p = (thrown_as made y _ e p.0, p.1)

-- a halt in place of what is wanted
pub unwanted : {X : Type 0} (s : Stop) (w : Working) (f : End → X) (x : X) (y : End) (z : At) → x ≡ f y → OnStop s w (λ h b. (halt h ≡ y) × (b ≡ z)) → OnStop s w (λ h b. (x ≡ f (halt h)) × (b ≡ z))
unwanted stop.Memory w f x y z e p = tt
unwanted stop.Halted w f x y z e p = (e ∙ ap f (sym p.0), p.1)

-- a problem in words
pub in_words : (made : Result Text AllocError) (words : List ℕ) (y : End) → halt (thrown words) ≡ y → IfOk made (λ t. t ≡ words) → IfOk made (λ t. halt (thrown t) ≡ y)
in_words (Ok t) words y e p = ap (λ s. halt (thrown s)) p ∙ e
in_words (Err x) words y e p = tt

-- the same, and of where it stands
pub end_to : {A : Type 0} (r : Result A Stop) (v : Value) (w : Working) (x y : End) (z u : At) → x ≡ y → z ≡ u → OnEnd r v w (λ o b. (o ≡ x) × (b ≡ z)) → OnEnd r v w (λ o b. (o ≡ y) × (b ≡ u))
end_to r v w x y z u e f p = subst (λ y. OnEnd r v w (λ o b. (o ≡ y) × (b ≡ u))) e (subst (λ u. OnEnd r v w (λ o b. (o ≡ x) × (b ≡ u))) f p)

pub stop_to : (s : Stop) (w : Working) (x y : End) (z u : At) → x ≡ y → z ≡ u → OnStop s w (λ h b. (halt h ≡ x) × (b ≡ z)) → OnStop s w (λ h b. (halt h ≡ y) × (b ≡ u))
stop_to s w x y z u e f p = subst (λ y. OnStop s w (λ h b. (halt h ≡ y) × (b ≡ u))) e (subst (λ u. OnStop s w (λ h b. (halt h ≡ x) × (b ≡ u))) f p)

-- a halt that is known, as an end
pub halt_to : (s : Stop) (w : Working) (x : Halt) (y : End) (z u : At) → halt x ≡ y → z ≡ u → OnStop s w (λ h b. (h ≡ x) × (b ≡ z)) → OnStop s w (λ h b. (halt h ≡ y) × (b ≡ u))
halt_to stop.Memory w x y z u e f p = tt
halt_to stop.Halted w x y z u e f p = (ap halt p.0 ∙ e, p.1 ∙ f)

-- the same where the turn went on, and kept its halt
pub ends_over : {A : Type 0} (r : Result A Stop) (v : Value) (w u : Working) (P Q : End → At → Type 0) → u.halt ≡ w.halt → OnEnd r v w P → ((o : End) → P o (at w) → Q o (at u)) → OnEnd r v u Q
ends_over (Ok x) v w u P Q e p f = f _ p
ends_over (Err stop.Memory) v w u P Q e p f = tt
ends_over (Err stop.Halted) v w u P Q e p f = subst (λ h. Q (halt (halt_of h)) (at u)) (sym e) (f _ p)

-- an evaluation stops as a part of it did
pub ends_on : {A : Type 0} (r : Result A Stop) (s : Stop) (v : Value) (w : Working) (P Q : End → At → Type 0) → IsErrAnd r (λ t. t ≡ s) → OnStop s w (λ h b. P (halt h) b) → ((h : Halt) (b : At) → P (halt h) b → Q (halt h) b) → OnEnd r v w Q
ends_on r s v w P Q e p f = handed_on r s w (λ u b. Q (value (val_of v)) b) (λ h b. P (halt h) b) (λ h b. Q (halt h) b) e p f

-- what is said of a halt
pub of_halted : (s : Stop) (w : Working) (Q : Halt → At → Type 0) → s ≡ stop.Halted → OnStop s w Q → Q (halt_of w.halt) (at w)
of_halted s w Q e p = subst (λ s. OnStop s w Q) e p
