-- What a condition leads to, by its value.
use Rattle.std.proofs.Common.{◌≡◌, ℕ, Bool, refl, subst, sym}
use Rattle.std.specs.Prelude.{Result, Ok, Err}
use Rattle.kernele.specs.Tree.{Tree}
use Rattle.code.specs.View.{tree_of_code}
use Rattle.code.specs.declared.code.Code.{Code}
use Rattle.values.specs.Data.{Val, bool}
use Rattle.eval_messages.proofs.Behind.{own_behind, own_given}
use Rattle.eval_rules.specs.At.{At}
use Rattle.eval_rules.specs.Answered.{OnAnswer}
use Rattle.eval_rules.specs.Outcomes.{End, value, halt}
use Rattle.eval_rules.specs.Rules.{Ends, Needs, choice_of, goes, ends}
use Rattle.eval_rules.proofs.Steps.{end_taken}
use Rattle.eval_rules.specs.declared.end.Stop.{Stop}
use Rattle.eval_rules.specs.declared.end.Stop.TheVariants as stop
use Rattle.eval_rules.specs.declared.working.Working.{Working}
use Rattle.eval.specs.Choosing.{Chooses}

pub chosen : (r : Result Bool Stop) (w : Working) {k : ℕ} {t : Tree} {a c : At} {v : Val} → Needs k t a (value v) c → OnAnswer r w (λ q b. (choice_of (value v) ≡ goes q) × (b ≡ c)) (λ h b. (choice_of (value v) ≡ ends (halt h)) × (b ≡ c)) → Chooses r w k t a
chosen (Ok q) w {k = k} {t = t} {a = a} {v = v} r p = (value v, subst (Needs k t a (value v)) (sym p.1) r, p.0)
chosen (Err stop.Memory) w r p = tt
chosen (Err stop.Halted) w {k = k} {t = t} {a = a} {v = v} r p = (value v, subst (Needs k t a (value v)) (sym p.1) r, p.0)

-- a truth value is its own end, so it is there where a datum is wanted
pub truth_there : {k : ℕ} {t : Tree} {a b : At} {q : Bool} → Ends k t a (value (bool q)) b → Needs k t a (value (bool q)) b
truth_there {b = b} {q = q} r = end_taken r (sym (own_given (bool q) b refl)) (sym (own_behind (bool q) b refl))

-- what a call for a child gave where a datum is wanted, at the child that is known
pub wanted : {d e : Code} {k : ℕ} {a b : At} {o : End} → d ≡ e → Needs k (tree_of_code d) a o b → Needs k (tree_of_code e) a o b
wanted {k = k} {a = a} {b = b} {o = o} same r = subst (λ x. Needs k (tree_of_code x) a o b) same r
