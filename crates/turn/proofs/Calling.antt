-- Calls that are delivered.
use Rattle.std.proofs.Common.{◌≡◌, ℕ, ◌+◌, ◌<◌, ◌≤◌, List, [], ◌∷◌, ◌++◌, length, take, get_or, refl, sym, ap, ◌∙◌}
use Rattle.std.proofs.lemmas.List.{take_all, take_more}
use Rattle.cells.proofs.Doings.{one_after_another}
use Rattle.cells.specs.Doing.{and_then}
use Rattle.kernele.specs.Tree.{Name, Trees}
use Rattle.values.specs.Data.{Val, null, Vals, no_vals, and_val}
use Rattle.values.specs.View.{val_of, vals_of}
use Rattle.values.specs.declared.value.Value.{Value}
use Rattle.heap.specs.State.{Nouns, Cell, Content, same_cell}
use Rattle.post.specs.Delivery.{Call}
use Rattle.sends.specs.Vats.{Vat}
use Rattle.eval_rules.specs.At.{At}
use Rattle.eval_rules.specs.Doings.{behind, under, with_under}
use Rattle.eval_rules.specs.Outcomes.{End, values}
use Rattle.eval_rules.specs.Rules.{Target, enters, called, inside, target_of, Items}
use Rattle.eval_objects.specs.View as view
use Rattle.eval_objects.specs.View.{Comes, gave, used}
use Rattle.turn_deliveries.specs.Turn.{Found, Led, led_gives, led_uses, led_enters, call_coming, call_met, call_meeting}
use Rattle.turn_deliveries.proofs.Coming.{led_from}

-- first this is done, and then that, whatever the first gives
pub behind_both : {A B : Type 0} (d : Vat A) (g : Vat B) (a : At) → behind (and_then d (λ n. g)) a ≡ behind g (behind d a)
behind_both {A = A} {B = B} d g a = ap (λ p. with_under p.1 a) (one_after_another Cell Content A B same_cell d (λ n. g) (under a))

-- a call comes to the same by itself and in a delivery
comes_led : {t : Target} {a b : At} {o : End} → Comes t a o b → Led t a o b
comes_led gave = led_gives
comes_led used = led_uses

-- a call that is delivered is made behind what it brings in
call_there : (c : Call) (f : Found) (a : At) {v : Val} {verb : Name} {vs : Vals} {x : At} {t : Target} → x ≡ behind (call_coming c f) a → v ≡ f.end → verb ≡ c.verb → vs ≡ c.arguments → t ≡ target_of v verb (values vs) x → t ≡ call_met c f a
call_there c f a e is m g h = h ∙ (λ i. target_of (is i) (m i) (values (g i)) (e i))

place_there : (c : Call) (f : Found) (a : At) {v : Val} {verb : Name} {vs : Vals} {x y : At} → x ≡ behind (call_coming c f) a → v ≡ f.end → verb ≡ c.verb → vs ≡ c.arguments → y ≡ called v verb (values vs) x → y ≡ call_meeting c f a
place_there c f a e is m g h = h ∙ (λ i. called (is i) (m i) (values (g i)) (e i))

-- what is said of where such a call leads
abbrev pub MadeOn : Val → Name → Vals → At → Target → At → Type 0
MadeOn v verb vs x t y = (t ≡ target_of v verb (values vs) x) × (y ≡ called v verb (values vs) x)

-- it enters no method
pub call_came : (c : Call) (f : Found) (a : At) {v : Val} {verb : Name} {vs : Vals} {x b : At} {o : End} → x ≡ behind (call_coming c f) a → v ≡ f.end → verb ≡ c.verb → vs ≡ c.arguments → view.Led (MadeOn v verb vs x) o b → Led (call_met c f a) (call_meeting c f a) o b
call_came c f a e is m g h = led_from (sym (call_there c f a e is m g h.2.0)) (sym (place_there c f a e is m g h.2.1)) (comes_led h.3)

-- it enters a method
pub call_entered : (c : Call) (f : Found) (a : At) {v : Val} {verb : Name} {vs : Vals} {x y b : At} {ns : Nouns} {body : Trees} {o : End} → x ≡ behind (call_coming c f) a → v ≡ f.end → verb ≡ c.verb → vs ≡ c.arguments → MadeOn v verb vs x (enters ns body) y
    → Items 1 null body (inside ns y) o b → Led (call_met c f a) (call_meeting c f a) o b
call_entered c f a e is m g h r = led_from (sym (call_there c f a e is m g h.0)) (sym (place_there c f a e is m g h.1)) (led_enters r)

-- values, and then others
abbrev vals_then : Vals → Vals → Vals
vals_then no_vals ws = ws
vals_then (and_val v vs) ws = and_val v (vals_then vs ws)

vals_push : (xs : List Value) (x : Value) → vals_of (xs ++ x ∷ []) ≡ vals_then (vals_of xs) (and_val (val_of x) no_vals)
vals_push [] x = refl
vals_push (y ∷ ys) x = ap (and_val (val_of y)) (vals_push ys x)

-- one more value is shared
vals_more : (xs ys : List Value) (x y : Value) → vals_of xs ≡ vals_of ys → val_of x ≡ val_of y → vals_of (xs ++ x ∷ []) ≡ vals_of (ys ++ y ∷ [])
vals_more xs ys x y e f = vals_push xs x ∙ (λ i. vals_then (e i) (and_val (f i) no_vals)) ∙ sym (vals_push ys y)

pub shared_more : (xs ys new : List Value) (x : Value) {i : ℕ} {y : Value} → i < length ys → y ≡ get_or ys i y → vals_of xs ≡ vals_of (take i ys) → val_of x ≡ val_of y → new ≡ xs ++ x ∷ [] → vals_of new ≡ vals_of (take (i + 1) ys)
shared_more xs ys new x {i = i} {y = y} h here same is push = ap vals_of push ∙ vals_more xs (take i ys) x y same is ∙ ap (λ z. vals_of (take i ys ++ z ∷ [])) here ∙ ap vals_of (sym (take_more ys i y h))

pub shared_all : (xs ys : List Value) {i : ℕ} → length ys ≤ i → vals_of xs ≡ vals_of (take i ys) → vals_of xs ≡ vals_of ys
shared_all xs ys {i = i} h e = e ∙ ap vals_of (take_all i ys h)
