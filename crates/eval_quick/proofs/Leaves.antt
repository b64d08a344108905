-- Leaves, calls on them, and assignments of these.
use Rattle.std.proofs.Common.{arith, ◌≡◌, ℕ, ◌+◌, ◌-◌, ◌<◌, ◌≤◌, ℤ, List, [], ◌∷◌, length, get_or, Option, Some, None, true, refl, sym, ap, ◌∙◌, subst}
use Rattle.ids.specs.declared.names.SlotId.{SlotId}
use Rattle.kernele.specs.Tree.{Name, Tree, Trees, int_tree, noun, call, assign, none, and_then}
use Rattle.code.specs.Frames.{after, fits_all, place_in}
use Rattle.code.specs.View.{tree_of_code, trees_of_codes}
use Rattle.code.specs.declared.code.Code.{Code}
use Rattle.code.specs.declared.code.NounPlace.{NounPlace}
use Rattle.values.specs.Data.{Val, int, null, no_vals, and_val, gives}
use Rattle.values.specs.Replies.{data_reply}
use Rattle.std.specs.Prelude.{IfSome}
use Rattle.heap.specs.State.{Bind, fixed, slot, lookup, frame_of, slot_cell, held, read}
use Rattle.eval_rules.specs.At.{At}
use Rattle.eval_rules.specs.Fits.{all_fit_at, fits_at, frame_at, frame_behind}
use Rattle.eval_objects.specs.Finding.{StandsAtHand}
use Rattle.eval_quick.specs.Leaves.{GivesAtHand, Leaf, Operands, AtHand, GoesOn}
use Rattle.eval_rules.specs.Outcomes.{value}
use Rattle.eval_rules.specs.Rules.{reached, put, slot_in, sought_in, seeking, slot_read, noun_read, slot_put, held_end, assigned_end, noun_end, sought_slot, Ends, at_node, Runs, run_int, run_noun, run_assign, run_call_gives, args_none, args_next}
use Rattle.eval_objects.proofs.OnData.{datum_target, datum_called}
use Rattle.eval_objects.proofs.Reached.{reached_already}
use Rattle.eval_rules.proofs.Steps.{runs_as, runs_to, items_more}
use Rattle.eval_rules.proofs.Fitting.{all_fit_then, placed_then}

-- to seek a name and to read a noun take no step
sought_left : (x : Name) (m : Option Bind) (n : ℕ) (a : At) → sought_in x m (record a { left = n }) ≡ record (sought_in x m a) { left = n }
sought_left x (Some b) n a = refl
sought_left x None n a = refl

pub seeking_left : (x : Name) (n : ℕ) (a : At) → seeking x (record a { left = n }) ≡ record (seeking x a) { left = n }
seeking_left x n a = sought_left x (lookup a.nouns x) n a

slot_left : (i : Option SlotId) (n : ℕ) (a : At) → slot_read i (record a { left = n }) ≡ record (slot_read i a) { left = n }
slot_left (Some i) n a = refl
slot_left None n a = refl

noun_left : (x : Name) (n : ℕ) (a : At) → noun_read x (record a { left = n }) ≡ record (noun_read x a) { left = n }
noun_left x n a = ap (slot_read (sought_slot x a)) (seeking_left x n a) ∙ slot_left (sought_slot x a) n (seeking x a)

-- a noun whose slot was touched before is at hand
pub slot_at_hand : (x : Name) (i : SlotId) (v : Val) (a : At) → StandsAtHand x (slot i) a → a.touched (slot_cell i) ≡ true → read a.state (slot_cell i) ≡ Some (held v) → GivesAtHand x v a
slot_at_hand x i v a h touched is = (
  ap (noun_end a.state x) h.0 ∙ ap (held_end x) is,
  ap (λ i. slot_read (slot_in i) (seeking x a)) h.0 ∙ ap (reached (slot_cell i)) h.1 ∙ reached_already (slot_cell i) a touched,
)

-- an integer and a noun that has a value are leaves
pub integer_leaf : (a : At) (e : Code) (z y : ℤ) → tree_of_code e ≡ int_tree z → y ≡ z → Leaf a (tree_of_code e) (int y)
integer_leaf a e z y is same = λ k n. subst (λ t. Runs k t (record a { left = n }) (value (int y)) (record a { left = n })) (sym is) (runs_as run_int (ap (λ x. value (int x)) same))

pub leaf_of_noun : (a : At) (x : Name) (v : Val) → GivesAtHand x v a → Leaf a (noun x) v
leaf_of_noun a x v h = λ k n. runs_to run_noun (sym h.0) (sym (noun_left x n a ∙ ap (λ (b : At). record b { left = n }) h.1))

pub noun_leaf : (a : At) (e : Code) (x : Name) (v : Val) → tree_of_code e ≡ noun x → GivesAtHand x v a → Leaf a (tree_of_code e) v
noun_leaf a e x v is h = subst (λ t. Leaf a t v) (sym is) (leaf_of_noun a x v h)

-- what fits behind a leaf fits where the leaf stands
pub leaf_fits : (a : At) (e : Code) {v : Val} (es : List Code) → Leaf a (tree_of_code e) v → fits_all a.own_scope (after a.own_scope (tree_of_code e) (frame_of a.nouns)) es → all_fit_at a es
leaf_fits a e es leaf h = all_fit_then {k = 1} {t = tree_of_code e} {a = record a { left = 1 }} {b = record a { left = 0 }} refl (at_node (omega arith) (omega arith) (leaf 1 0)) h

pub leaf_ends : (a : At) (t : Tree) (v : Val) (k n : ℕ) → Leaf a t v → 0 < n → k ≤ 1000 → Ends k t (record a { left = n }) (value v) (record a { left = n - 1 })
leaf_ends a t v k n leaf some deep = at_node some deep (leaf k (n - 1))

pub twice : (n : ℕ) → n - 1 - 1 ≡ n - 2
twice n = omega arith

-- a call on two leaves
pub leaf_call : (a : At) {k : ℕ} {r t : Tree} {verb : Name} {u m v : Val} → Leaf a r u → Leaf a t m → 2 ≤ a.left → k < 1000 → data_reply u verb (and_val m no_vals) ≡ gives v
    → Runs k (call r verb (and_then t none)) a (value v) (record a { left = a.left - 2 })
leaf_call a {k = k} {r = r} {t = t} {verb = verb} {u = u} {m = m} {v = v} left right two deep h =
    let b : At = record a { left = a.left - 1 - 1 } in
    runs_to (run_call_gives (leaf_ends a r u (k + 1) a.left left (omega (arith, two)) (omega (arith, deep)))
    (args_next (leaf_ends a t m (k + 1) (a.left - 1) right (omega (arith, two)) (omega (arith, deep))) args_none)
    (datum_target u verb m v b h))
    refl (ap (λ n. record a { left = n }) (sym (twice a.left)) ∙ sym (datum_called u verb m v b h))

-- two leaves are the operands of a call
pub operands : (a : At) {r : Tree} {e : Code} {es : List Code} {x y p q : ℤ} → e ∷ [] ≡ es → Leaf a r (int x) → Leaf a (tree_of_code e) (int y) → p ≡ x → q ≡ y → Operands a r (trees_of_codes es) p q
operands a {r = r} {e = e} same left right f g = (subst (λ x. Leaf a r (int x)) (sym f) left, tree_of_code e, ap trees_of_codes (sym same), subst (λ y. Leaf a (tree_of_code e) (int y)) (sym g) right)

-- a call on operands at hand
call_runs : (a : At) {k : ℕ} {r : Tree} {ts : Trees} {verb : Name} {x y : ℤ} {v : Val} → Operands a r ts x y → 2 ≤ a.left → k < 1000 → data_reply (int x) verb (and_val (int y) no_vals) ≡ gives v
    → Runs k (call r verb ts) a (value v) (record a { left = a.left - 2 })
call_runs a {k = k} {r = r} {verb = verb} {v = v} both two deep h = subst (λ us. Runs k (call r verb us) a (value v) (record a { left = a.left - 2 })) (sym both.2) (leaf_call a both.0 both.3 two deep h)

-- the same where the integers are known otherwise
reply_as : (verb : Name) {x y p q : ℤ} {v : Val} → p ≡ x → q ≡ y → data_reply (int p) verb (and_val (int q) no_vals) ≡ gives v → data_reply (int x) verb (and_val (int y) no_vals) ≡ gives v
reply_as verb f g h = sym (λ i. data_reply (int (f i)) verb (and_val (int (g i)) no_vals)) ∙ h

pub integers_run : (a : At) {k : ℕ} {r : Tree} {ts : Trees} {verb : Name} {x y p q : ℤ} {v : Val} → Operands a r ts x y → 2 ≤ a.left → k < 1000 → p ≡ x → q ≡ y → data_reply (int p) verb (and_val (int q) no_vals) ≡ gives v
    → Runs k (call r verb ts) a (value v) (record a { left = a.left - 2 })
integers_run a {verb = verb} both two deep f g h = call_runs a both two deep (reply_as verb f g h)

pub thrice : (n : ℕ) → n - 1 - 2 ≡ n - 3
thrice n = omega arith

call_at_hand : (a : At) {r : Tree} {ts : Trees} {verb : Name} {x y : ℤ} {v : Val} → Operands a r ts x y → data_reply (int x) verb (and_val (int y) no_vals) ≡ gives v → AtHand a (call r verb ts) 3 v
call_at_hand a {r = r} {ts = ts} {verb = verb} {v = v} both h = λ k n deep some.
    subst (λ m. Ends k (call r verb ts) (record a { left = n }) (value v) (record a { left = m })) (thrice n)
    (at_node (omega (arith, some)) (omega (arith, deep)) (call_runs (record a { left = n - 1 }) both (omega (arith, some)) deep h))

-- the parts of such a call fit
pub operands_fit : (a : At) {r s : Code} {es fs : List Code} → r ≡ s → es ≡ fs → fits_at a s × fits_all a.own_scope (frame_behind a s) fs → fits_at a r × fits_all a.own_scope (frame_behind a r) es
operands_fit a {r = r} {fs = fs} f g h = subst (λ cs. fits_at a r × fits_all a.own_scope (frame_behind a r) cs) (sym g) (subst (λ c. fits_at a c × fits_all a.own_scope (frame_behind a c) fs) (sym f) h)

-- code that is such a call
pub code_at_hand : (a : At) (e : Code) (r s : Code) {es fs : List Code} {verb : Name} {x y p q : ℤ} {v : Val} → tree_of_code e ≡ call (tree_of_code s) verb (trees_of_codes fs) → r ≡ s → es ≡ fs → Operands a (tree_of_code r) (trees_of_codes es) x y
    → p ≡ x → q ≡ y → data_reply (int p) verb (and_val (int q) no_vals) ≡ gives v → AtHand a (tree_of_code e) 3 v
code_at_hand a e r s {fs = fs} {verb = verb} {x = x} {y = y} {v = v} is f g both m n h =
    subst (λ t. AtHand a t 3 v) (sym is) (call_at_hand a (subst (λ c. Operands a (tree_of_code c) (trees_of_codes fs) x y) f (subst (λ cs. Operands a (tree_of_code r) (trees_of_codes cs) x y) g both)) (reply_as verb m n h))

pub fourth : (n : ℕ) → n - 4 ≡ n - 1 - 3
fourth n = omega arith

-- the name of an assignment is at its place where the right side is at hand
pub placed_at_hand : (a : At) (c d : Code) {p : NounPlace} {v : Val} (x : Name) → c ≡ d → AtHand a (tree_of_code c) 3 v → p ≡ place_in (frame_behind a d) x → p ≡ place_in (frame_at a) x
placed_at_hand a c d {p = p} {v = v} x same at_hand h = placed_then x (subst (λ e. AtHand a (tree_of_code e) 3 v) same at_hand 1 3 (omega arith) (omega arith)) h

-- an assignment of an integer that is at hand
pub set_at_hand : (a : At) (e c d : Code) {x : Name} {k : ℕ} {y z : ℤ} {i : SlotId} → tree_of_code e ≡ assign x (tree_of_code d) → c ≡ d → AtHand a (tree_of_code c) 3 (int z) → y ≡ z → 4 ≤ a.left → k < 999 → StandsAtHand x (slot i) a
    → Ends k (tree_of_code e) a (value (int y)) (record (put (slot_cell i) (held (int y)) a) { left = a.left - 4 })
set_at_hand a e c d {x = x} {k = k} {y = y} {z = z} {i = i} is same at_hand f enough deep there =
    let b : At = record a { left = a.left - 1 - 3 } in
    let right : AtHand a (tree_of_code d) 3 (int y) = subst (λ z. AtHand a (tree_of_code d) 3 (int z)) (sym f) (subst (λ e. AtHand a (tree_of_code e) 3 (int z)) same at_hand) in
    let found : sought_slot x a ≡ Some i = ap slot_in there.0 in
    let sought : seeking x b ≡ b = seeking_left x b.left a ∙ ap (λ (z : At). record z { left = b.left }) there.1 in
    subst (λ t. Ends k t a (value (int y)) (record (put (slot_cell i) (held (int y)) a) { left = a.left - 4 })) (sym is)
    (at_node (omega (arith, enough)) (omega (arith, deep))
    (runs_to (run_assign (right (k + 1) (a.left - 1) (omega (arith, deep)) (omega (arith, enough))))
    (sym (ap (assigned_end x (value (int y))) found))
    (ap (λ n. record (put (slot_cell i) (held (int y)) a) { left = n }) (fourth a.left) ∙ sym (λ j. slot_put (int y) (found j) (sought j)))))

-- no item is done yet
pub none_done : {k : ℕ} (items : List Code) (a : At) → GoesOn k items 0 a a
none_done items a = (null, λ o c h. h)

-- one more item gave a value
pub setting_done : {k : ℕ} (items : List Code) {i : ℕ} {x : Code} {a b c : At} {v : Val} → i < length items → x ≡ get_or items i x → Ends k (tree_of_code x) b (value v) c → GoesOn k items i a b → GoesOn k items (i + 1) a c
setting_done items {v = v} h e ended goes = (v, λ o d rest. goes.1 o d (items_more items h e ended rest))

-- a noun that stands for a value is at hand
pub fixed_at_hand : (x : Name) (v : Val) (a : At) → StandsAtHand x (fixed v) a → GivesAtHand x v a
fixed_at_hand x v a h = (ap (noun_end a.state x) h.0, ap (λ m. slot_read (slot_in m) (seeking x a)) h.0 ∙ h.1)

-- a noun at hand ends with its value where there is a step for it
noun_ends : (a : At) (e : Code) (x : Name) (v : Val) (k : ℕ) → tree_of_code e ≡ noun x → GivesAtHand x v a → 0 < a.left → k ≤ 1000 → Ends k (tree_of_code e) a (value v) (record a { left = a.left - 1 })
noun_ends a e x v k is h some deep = leaf_ends a (tree_of_code e) v k a.left (noun_leaf a e x v is h) some deep

-- the same of a noun that may be at hand
pub given_ends : {X : Type 0} (r : Option X) (f : X → Val) (a : At) (e : Code) (x : Name) (k : ℕ) → tree_of_code e ≡ noun x → IfSome r (λ v. GivesAtHand x (f v) a) → 0 < a.left → k ≤ 1000
    → IfSome r (λ v. Ends k (tree_of_code e) a (value (f v)) (record a { left = a.left - 1 }))
given_ends (Some y) f a e x k is h some deep = noun_ends a e x (f y) k is h some deep
given_ends None f a e x k is h some deep = tt

-- what holds anyway holds of what may be there
pub where_some : {X P : Type 0} (r : Option X) → P → IfSome r (λ v. P)
where_some (Some y) p = p
where_some None p = tt
