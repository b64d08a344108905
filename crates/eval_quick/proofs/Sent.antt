-- Calls on an ejector that is at hand.
use Rattle.std.proofs.Common.{arith, ◌≡◌, ℕ, ◌+◌, ◌-◌, ◌<◌, ◌≤◌, List, [], ◌∷◌, true, cond, ap, sym, ◌∙◌, subst, refl}
use Rattle.std.specs.Prelude.{codes}
use Rattle.std.specs.Str.{bytes_eq}
use Rattle.ids.specs.declared.names.EjId.{EjId}
use Rattle.kernele.specs.Tree.{Name, Tree, Trees, call, none, and_then}
use Rattle.code.specs.View.{tree_of_code, trees_of_codes}
use Rattle.code.specs.declared.code.Code.{Code}
use Rattle.values.specs.Data.{Val, ejector, no_vals, and_val}
use Rattle.eval_rules.specs.At.{At}
use Rattle.eval_rules.specs.Doings.{same_vat}
use Rattle.eval_rules.specs.Outcomes.{End, value, halt, values}
use Rattle.eval_rules.proofs.Steps.{runs_to}
use Rattle.eval_rules.specs.Rules.{on_ejector, if_own, callee_target, callee_read, target_of, called, gives, same_ejector, is_open, ejects, no_such_method, Ends, Runs, at_node, run_call_gives, args_none, args_next, args_halt}
use Rattle.eval_quick.specs.Leaves.{Leaf, Returns, SendsTo, sent}
use Rattle.eval_quick.proofs.Leaves.{leaf_ends}
use Rattle.eval_objects.proofs.OnData.{own_target, own_called}
use Rattle.eval_quick.proofs.Staying.{ends_vat}

twice : (n : ℕ) → n - 1 - 1 ≡ n - 2
twice n = omega arith

-- an ejector of the vat is called
ejector_target : (i : EjId) (verb : Name) (v : Val) (b : At) → same_vat i.vat b.vat ≡ true → bytes_eq verb (codes "run") ≡ true → target_of (ejector i) verb (values (and_val v no_vals)) b ≡ gives (ejects (is_open i b.opened) i v)
ejector_target i verb v b own run =
    own_target (ejector i) verb (and_val v no_vals) b refl ∙ ap (λ q. callee_target (if_own q (on_ejector i)) (ejector i) verb (and_val v no_vals) b) own
    ∙ ap (λ q. gives (cond q (ejects (is_open i b.opened) i v) (no_such_method verb (and_val v no_vals)))) run

ejector_called : (i : EjId) (verb : Name) (v : Val) (b : At) → same_vat i.vat b.vat ≡ true → called (ejector i) verb (values (and_val v no_vals)) b ≡ b
ejector_called i verb v b own = own_called (ejector i) verb (and_val v no_vals) b refl ∙ ap (λ q. callee_read (if_own q (on_ejector i)) (ejector i) verb (and_val v no_vals) b) own

-- a call on an ejector, by how its argument ended
sends_on : (a b : At) {k : ℕ} {r t : Tree} {verb : Name} {i : EjId} (o : End) → Leaf a r (ejector i) → same_vat i.vat a.vat ≡ true → bytes_eq verb (codes "run") ≡ true → 1 ≤ a.left → k < 1000 → Ends (k + 1) t (record a { left = a.left - 1 }) o b → Runs k (call r verb (and_then t none)) a (sent i b.opened o) b
sends_on a b {k = k} {r = r} {verb = verb} {i = i} (value v) leaf own run some deep h =
    let here : same_vat i.vat b.vat ≡ true = ap (λ w. same_vat i.vat w) (ends_vat h) ∙ own in
    runs_to (run_call_gives (leaf_ends a r (ejector i) (k + 1) a.left leaf (omega (arith, some)) (omega (arith, deep))) (args_next h args_none)
    (ejector_target i verb v b here run))
    refl (sym (ejector_called i verb v b here))
sends_on a b {k = k} {r = r} {i = i} (halt s) leaf own run some deep h =
    run_call_gives (leaf_ends a r (ejector i) (k + 1) a.left leaf (omega (arith, some)) (omega (arith, deep))) (args_halt h) refl

pub call_sends : (a : At) {k : ℕ} {r : Tree} {verb : Name} {i : EjId} (args : Trees) → Leaf a r (ejector i) → same_vat i.vat a.vat ≡ true → bytes_eq verb (codes "run") ≡ true → 1 ≤ a.left → k < 1000 → SendsTo k a i r verb args
call_sends a {k = k} {r = r} {verb = verb} {i = i} args leaf own run some deep = λ arg one o b h. subst (λ ts. Runs k (call r verb ts) a (sent i b.opened o) b) (sym one) (sends_on a b o leaf own run some deep h)

-- and a node of such a call
sent_on : (a b : At) {k : ℕ} {r t : Tree} {verb : Name} {i : EjId} (o : End) → Leaf a r (ejector i) → same_vat i.vat a.vat ≡ true → bytes_eq verb (codes "run") ≡ true → 2 ≤ a.left → k < 1000 → Ends (k + 1) t (record a { left = a.left - 1 - 1 }) o b → Ends k (call r verb (and_then t none)) a (sent i b.opened o) b
sent_on a b o leaf own run two deep h = at_node (omega (arith, two)) (omega (arith, deep)) (sends_on (record a { left = a.left - 1 }) b o leaf own run (omega (arith, two)) deep h)

-- such a call on code
pub call_returns : (a : At) {k : ℕ} {r : Tree} {x : Code} {es : List Code} {verb : Name} {i : EjId} (j : EjId) → x ∷ [] ≡ es → Leaf a r (ejector i) → same_ejector j i ≡ true → same_vat i.vat a.vat ≡ true → bytes_eq verb (codes "run") ≡ true → 2 ≤ a.left → k < 1000 → Returns k a j (call r verb (trees_of_codes es)) (tree_of_code x)
call_returns a {k = k} {r = r} {x = x} {verb = verb} {i = i} j one leaf same own run two deep = (
  i,
  same,
  λ o b h.
      subst (λ es. Ends k (call r verb (trees_of_codes es)) a (sent i b.opened o) b) one
      (sent_on a b o leaf own run two deep (subst (λ n. Ends (k + 1) (tree_of_code x) (record a { left = n }) o b) (sym (twice a.left)) h)),
)

-- the same of code that is such a call
pub returns_as : (a : At) (e : Code) (k : ℕ) {r s : Code} {es fs : List Code} {verb : Name} (j : EjId) (arg : Tree) → tree_of_code e ≡ call (tree_of_code s) verb (trees_of_codes fs) → r ≡ s → es ≡ fs → Returns k a j (call (tree_of_code r) verb (trees_of_codes es)) arg → Returns k a j (tree_of_code e) arg
returns_as a e k {r = r} {s = s} {es = es} {fs = fs} {verb = verb} j arg is f g h =
    subst (λ t. Returns k a j t arg) (sym is) (subst (λ c. Returns k a j (call (tree_of_code c) verb (trees_of_codes fs)) arg) f (subst (λ ys. Returns k a j (call (tree_of_code r) verb (trees_of_codes ys)) arg) g h))
