-- Items and blocks whose value nobody wants.
use Rattle.std.proofs.Common.{arith, ◌≡◌, ℕ, ◌-◌, ◌≤◌, List, drop, take, length, refl, sym, subst}
use Rattle.std.proofs.lemmas.List.{take_all, length-drop}
use Rattle.std.specs.Prelude.{Result, Ok, Err}
use Rattle.kernele.specs.Tree.{Trees}
use Rattle.code.specs.View.{trees_of_codes}
use Rattle.code.specs.declared.code.Code.{Code}
use Rattle.values.specs.Data.{Val, null}
use Rattle.values.specs.View.{val_of}
use Rattle.values.specs.declared.value.Value.{Value}
use Rattle.eval_rules.specs.At.{At}
use Rattle.eval_rules.specs.Answered.{OnEnd}
use Rattle.eval_rules.specs.Outcomes.{End, Halt, value, halt}
use Rattle.eval_rules.specs.Rules.{Items, items_none, items_next, items_halt}
use Rattle.eval_rules.specs.View.{at, halt_of}
use Rattle.eval_rules.specs.declared.end.Stop.{Stop}
use Rattle.eval_rules.specs.declared.end.Stop.TheVariants as stop
use Rattle.eval_rules.specs.declared.working.Working.{Working}
use Rattle.eval_rules.proofs.Steps.{items_end}
use Rattle.eval_quick.specs.Leaves.{GoesOn}
use Rattle.eval.specs.Unwanted.{OnSomeEnd}

-- after other values items end alike
values_after : {k : ℕ} {u w : Val} (v : Val) {ts : Trees} {a b : At} → Items k u ts a (value w) b → (x : Val) × Items k v ts a (value x) b
values_after v items_none = (v, items_none)
values_after v (items_next {o = o} f r) = (_, items_next f r)

halts_after : {k : ℕ} {u v : Val} {ts : Trees} {a b : At} {o : End} (s : Halt) → o ≡ halt s → Items k u ts a o b → Items k v ts a o b
halts_after s e items_none = cc
halts_after s e (items_next f r) = items_next f r
halts_after s e (items_halt f) = items_halt f

-- the items from a position on to the end
pub to_the_end : (n : ℕ) (xs : List Code) → take (length xs - n) (drop n xs) ≡ drop n xs
to_the_end n xs = take_all (length xs - n) (drop n xs) (omega (arith, length-drop n xs))

-- items that are all done
pub all_done : {k : ℕ} (xs : List Code) (n : ℕ) {a b : At} → length xs ≤ n → GoesOn k xs n a b → (v : Val) × Items k null (trees_of_codes xs) a (value v) b
all_done xs n {b = b} l goes = (goes.0, goes.1 (value goes.0) b (items_end xs l))

-- items whose head is done, and then those behind it
pub done_then : {A : Type 0} (r : Result A Stop) (into : Value) (w : Working) {k : ℕ} (xs : List Code) (n : ℕ) {ys : List Code} {a : At} (b : At) → ys ≡ drop n xs → GoesOn k xs n a b → OnEnd r into w (Items k null (trees_of_codes ys) b) → OnSomeEnd r w (Items k null (trees_of_codes xs) a)
done_then (Ok u) into w {k = k} xs n b same goes r =
    let after = values_after {w = val_of into} goes.0 (subst (λ ys. Items k null (trees_of_codes ys) b (value (val_of into)) (at w)) same r) in
    (after.0, goes.1 (value after.0) (at w) after.1)
done_then (Err stop.Memory) into w xs n b same goes r = tt
done_then (Err stop.Halted) into w {k = k} xs n b same goes r = goes.1 (halt (halt_of w.halt)) (at w) (halts_after (halt_of w.halt) refl (subst (λ ys. Items k null (trees_of_codes ys) b (halt (halt_of w.halt)) (at w)) same r))

-- the same answer, where the turn went on and kept its halt
pub some_over : {A : Type 0} (r : Result A Stop) (w u : Working) (P Q : End → At → Type 0) → u.halt ≡ w.halt → OnSomeEnd r w P → ((o : End) → P o (at w) → Q o (at u)) → OnSomeEnd r u Q
some_over (Ok x) w u P Q e p f = (p.0, f (value p.0) p.1)
some_over (Err stop.Memory) w u P Q e p f = tt
some_over (Err stop.Halted) w u P Q e p f = subst (λ h. Q (halt (halt_of h)) (at u)) (sym e) (f _ p)
