-- What calls come to that enter no method.
use Rattle.std.proofs.Common.{◌≡◌, List, [], ◌∷◌, length, get_or, true, false, cond, refl, sym, ap, ◌∙◌, subst, arith}
use Rattle.std.specs.Prelude.{codes, ℤ, Option, IfSome}
use Rattle.std.specs.Str.{bytes_eq}
use Rattle.ids.specs.declared.names.PromId.{PromId}
use Rattle.kernele.specs.Tree.{Name}
use Rattle.std.specs.Option.{option_map}
use Rattle.std.proofs.lemmas.Option.{IfSome_then}
use Rattle.values.specs.Data.{Val, int, Vals, no_vals, and_val}
use Rattle.values.specs.Replies.{data_reply, value_given}
use Rattle.values.proofs.Tables.{value_is_given}
use Rattle.values.specs.View.{val_of, vals_of}
use Rattle.values.specs.declared.value.Value.{Value}
use Rattle.sends.specs.Vats.{Vat}
use Rattle.sends.specs.Making.{Making, Published, resolving, smashing}
use Rattle.eval_rules.specs.Doings.{given_by, behind, resolver_end, resolver_out}
use Rattle.eval_rules.specs.At.{At}
use Rattle.eval_rules.specs.Outcomes.{End}
use Rattle.eval_rules.specs.Rules.{Target, gives, uses, no_such_method, resolver_target}
use Rattle.eval_objects.specs.Making.{GivesForOne}
use Rattle.eval_objects.specs.View.{Comes, gave, used, Led}

-- less is said of what a call led to
pub led_weaker : (P Q : Target → At → Type 0) (o : End) (b : At) → ((t : Target) (a : At) → P t a → Q t a) → Led P o b → Led Q o b
led_weaker P Q o b f l = (l.0, l.1, f l.0 l.1 l.2, l.3)

-- a call led to an end
pub led_to_end : (Q : Target → At → Type 0) (x o : End) (z b : At) → Q (gives x) z → (o ≡ x) × (b ≡ z) → Led Q o b
led_to_end Q x o z b q e = (gives o, b, subst (λ c. Q (gives o) c) (sym e.1) (subst (λ y. Q (gives y) z) (sym e.0) q), gave)

-- a call led to the use of a resolver
pub led_to_use : (Q : Target → At → Type 0) (p : PromId) (d : Vat (Making Published)) (a : At) (o : End) (b : At) → Q (uses p d) a → (o ≡ resolver_end (given_by d a)) × (b ≡ resolver_out p (given_by d a) (behind d a)) → Led Q o b
led_to_use Q p d a o b q e = (
  uses p d,
  a,
  q,
  subst (λ c. Comes (uses p d) a o c) (sym e.1) (subst (λ y. Comes (uses p d) a y (resolver_out p (given_by d a) (behind d a))) (sym e.0) used),
)

-- ---- what a call on a resolver leads to

pub resolves : (p : PromId) (verb : Name) (v : Val) (vs : Vals) → vs ≡ and_val v no_vals → bytes_eq verb (codes "resolve") ≡ true → uses p (resolving p v) ≡ resolver_target p verb vs
resolves p verb v vs one is =
    let rest : Target = cond (bytes_eq verb (codes "smash")) (uses p (smashing p v)) (gives (no_such_method verb (and_val v no_vals))) in
    sym (ap (resolver_target p verb) one ∙ ap (λ q. cond q (uses p (resolving p v)) rest) is)

pub smashes : (p : PromId) (verb : Name) (v : Val) (vs : Vals) → vs ≡ and_val v no_vals → bytes_eq verb (codes "resolve") ≡ false → bytes_eq verb (codes "smash") ≡ true → uses p (smashing p v) ≡ resolver_target p verb vs
smashes p verb v vs one other is =
    sym (ap (resolver_target p verb) one ∙ (λ i. cond (other i) (uses p (resolving p v)) (cond (is i) (uses p (smashing p v)) (gives (no_such_method verb (and_val v no_vals))))))

pub lacks : (p : PromId) (verb : Name) (v : Val) (vs : Vals) → vs ≡ and_val v no_vals → bytes_eq verb (codes "resolve") ≡ false → bytes_eq verb (codes "smash") ≡ false → gives (no_such_method verb vs) ≡ resolver_target p verb vs
lacks p verb v vs one other neither =
    ap (λ us. gives (no_such_method verb us)) one
    ∙ sym (ap (resolver_target p verb) one ∙ (λ i. cond (other i) (uses p (resolving p v)) (cond (neither i) (uses p (smashing p v)) (gives (no_such_method verb (and_val v no_vals))))))

-- its verbs have one argument
pub lacks_unless_one : (p : PromId) (verb : Name) (xs : List Value) → (length xs ≡ 1 → ⊥) → gives (no_such_method verb (vals_of xs)) ≡ resolver_target p verb (vals_of xs)
lacks_unless_one p verb [] h = refl
lacks_unless_one p verb (x ∷ []) h = absurd (h (omega arith))
lacks_unless_one p verb (x ∷ y ∷ ys) h = refl

pub one_value : (xs : List Value) (x : Value) → length xs ≡ 1 → x ≡ get_or xs 0 x → vals_of xs ≡ and_val (val_of x) no_vals
one_value [] x one is = absurd (omega arith)
one_value (y ∷ []) x one is = ap (λ (z : Value). and_val (val_of z) no_vals) (sym is)
one_value (y ∷ z ∷ zs) x one is = absurd (omega arith)

-- a verb on an integer gives a value for the only argument, which is one too
pub for_one : (r : Option Value) (x y p q : ℤ) {u : Val} (verb : Name) {vs : Vals} → u ≡ int p → vs ≡ and_val (int q) no_vals → option_map val_of r ≡ value_given (data_reply (int x) verb (and_val (int y) no_vals)) → x ≡ p → y ≡ q → IfSome r (λ v. GivesForOne u verb vs (val_of v))
for_one r x y p q verb on for h f g = IfSome_then r (value_is_given r _ h) (λ v e. (int q, for, (λ j. data_reply ((on ∙ ap int (sym f)) j) verb (and_val (int (sym g j)) no_vals)) ∙ e))
