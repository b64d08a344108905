-- From the rules to what the program's functions ensure.
use Rattle.std.proofs.Common.{arith, ◌≡◌, ℕ, ◌+◌, ◌<◌, ◌≤◌, Bool, List, [], ◌∷◌, ◌++◌, subst, sym, ap, refl, length, drop, get_or, add-one, ◌∙◌, suc}
use Rattle.std.proofs.Math.Seq.{drop-cons}
use Rattle.std.proofs.lemmas.List.{drop_all}
use Rattle.kernele.specs.Tree.{Tree, Trees, none, and_then}
use Rattle.code.specs.View.{tree_of_code, trees_of_codes}
use Rattle.code.specs.declared.code.Code.{Code}
use Rattle.values.specs.Data.{Val, null, Vals, and_val, no_vals}
use Rattle.values.specs.View.{val_of, vals_of}
use Rattle.values.specs.declared.value.Value.{Value}
use Rattle.eval_rules.specs.At.{At}
use Rattle.eval_rules.specs.Outcomes.{End, Halt, value, halt, Gather, values, halted}
use Rattle.eval_rules.specs.Rules.{entering, leaving, again, matched, Ends, at_node, Runs, begun, Args, args_none, args_next, args_halt, Items, items_none, items_next, items_halt, Block, in_block, Taking, in_taking, Each, each_none, each_next, each_halt, Needs, needs}
use Rattle.eval_rules.specs.Locals.{oldest}
use Rattle.eval_rules.specs.View.{at}
use Rattle.eval_rules.proofs.Scopes.{truncated}
use Rattle.eval_rules.proofs.Grown.{Grown, items_grow, taken_grow}
use Rattle.eval_rules.specs.declared.working.Working.{Working}
use Rattle.kernele.specs.declared.tree.Pattern.{Pattern}
use Rattle.std.specs.declared.vec.Vec.{Vec}
use Rattle.std.specs.declared.alloc.Global.{Global}
use Rattle.eval_rules.specs.Doings.{behind, given_by}
use Rattle.sends.specs.Vats.{ended}

-- values and then more
abbrev pub appended : Vals → Vals → Vals
appended no_vals ws = ws
appended (and_val v vs) ws = and_val v (appended vs ws)

appended-none : (vs : Vals) → appended vs no_vals ≡ vs
appended-none no_vals = refl
appended-none (and_val v vs) = ap (and_val v) (appended-none vs)

appended-appended : (us vs ws : Vals) → appended (appended us vs) ws ≡ appended us (appended vs ws)
appended-appended no_vals vs ws = refl
appended-appended (and_val u us) vs ws = ap (and_val u) (appended-appended us vs ws)

-- the values of a longer list
vals_of-push : (xs : List Value) (v : Value) → vals_of (xs ++ v ∷ []) ≡ appended (vals_of xs) (and_val (val_of v) no_vals)
vals_of-push [] v = refl
vals_of-push (x ∷ xs) v = ap (and_val (val_of x)) (vals_of-push xs v)

-- a node, by the rule for its construct
pub node : (e : Code) {t : Tree} {k : ℕ} {a b : At} {o : End} → tree_of_code e ≡ t → Runs k t (begun a) o b → 0 < a.left → k ≤ 1000 → Ends k (tree_of_code e) a o b
node e {k = k} {a = a} {b = b} {o = o} is r has fits = subst (λ u. Ends k u a o b) (sym is) (at_node has fits r)

-- what a call for a child gave, at the child that is known
pub child : {d e : Code} {k : ℕ} {a b : At} {o : End} → d ≡ e → Ends k (tree_of_code d) a o b → Ends k (tree_of_code e) a o b
child {k = k} {a = a} {b = b} {o = o} same r = subst (λ x. Ends k (tree_of_code x) a o b) same r

-- values, and then how the rest ends
abbrev pub after_values : Vals → Gather → Gather
after_values vs (values ws) = values (appended vs ws)
after_values vs (halted s) = halted s

-- the trees from an index on
pub trees_from : (xs : List Code) (i : ℕ) (x : Code) → i < length xs → x ≡ get_or xs i x → trees_of_codes (drop i xs) ≡ and_then (tree_of_code x) (trees_of_codes (drop (i + 1) xs))
trees_from xs i x h e = rw add-one (ap trees_of_codes (drop-cons xs i x h) ∙ ap (λ y. and_then (tree_of_code y) (trees_of_codes (drop (suc i) xs))) (sym e))

-- one more argument
pub args_more : {k : ℕ} (xs : List Code) {i : ℕ} {x : Code} {a b c : At} {v : Val} (g : Gather) → i < length xs → x ≡ get_or xs i x → Ends k (tree_of_code x) a (value v) b → Args k (trees_of_codes (drop (i + 1) xs)) b g c → Args k (trees_of_codes (drop i xs)) a (after_values (and_val v no_vals) g) c
args_more {k = k} xs {i = i} {x = x} {a = a} {b = b} {c = c} {v = v} (values vs) h e f r = subst (λ ts. Args k ts a (values (and_val v vs)) c) (sym (trees_from xs i x h e)) (args_next f r)
args_more {k = k} xs {i = i} {x = x} {a = a} {b = b} {c = c} {v = v} (halted s) h e f r = subst (λ ts. Args k ts a (halted s) c) (sym (trees_from xs i x h e)) (args_next f r)

pub args_no_more : {k : ℕ} (xs : List Code) {i : ℕ} {x : Code} {a b : At} {s : Halt} → i < length xs → x ≡ get_or xs i x → Ends k (tree_of_code x) a (halt s) b → Args k (trees_of_codes (drop i xs)) a (halted s) b
args_no_more {k = k} xs {i = i} {x = x} {a = a} {b = b} {s = s} h e f = subst (λ ts. Args k ts a (halted s) b) (sym (trees_from xs i x h e)) (args_halt f)

pub args_end : {k : ℕ} (xs : List Code) {i : ℕ} {a : At} → length xs ≤ i → Args k (trees_of_codes (drop i xs)) a (values no_vals) a
args_end {k = k} xs {i = i} {a = a} h = subst (λ ys. Args k (trees_of_codes ys) a (values no_vals) a) (sym (drop_all i xs h)) args_none

pub after_values-push : (xs : List Value) (v : Value) (g : Gather) → after_values (vals_of xs) (after_values (and_val (val_of v) no_vals) g) ≡ after_values (vals_of (xs ++ v ∷ [])) g
after_values-push xs v (values ws) = ap values (sym (ap (λ us. appended us ws) (vals_of-push xs v) ∙ appended-appended (vals_of xs) (and_val (val_of v) no_vals) ws))
after_values-push xs v (halted s) = refl

-- the values so far, in the program's vector
pub args_begin : {k : ℕ} {ts : Trees} {a b : At} {g : Gather} {xs : List Value} → xs ≡ [] → Args k ts a g b → Args k ts a (after_values (vals_of xs) g) b
args_begin {k = k} {ts = ts} {a = a} {b = b} {g = values ws} e r = subst (λ xs. Args k ts a (after_values (vals_of xs) (values ws)) b) (sym e) r
args_begin {k = k} {ts = ts} {a = a} {b = b} {g = halted s} e r = r

pub args_pushed : {k : ℕ} {ts : Trees} {a b : At} (g : Gather) {ys : List Value} (xs : List Value) (v : Value) → ys ≡ xs ++ v ∷ [] → Args k ts a (after_values (vals_of xs) (after_values (and_val (val_of v) no_vals) g)) b → Args k ts a (after_values (vals_of ys) g) b
args_pushed {k = k} {ts = ts} {a = a} {b = b} g xs v e r = subst (λ zs. Args k ts a (after_values (vals_of zs) g) b) (sym e) (subst (λ h. Args k ts a h b) (after_values-push xs v g) r)

pub args_done : {k : ℕ} {ts : Trees} {a b : At} (xs : List Value) → Args k ts a (after_values (vals_of xs) (values no_vals)) b → Args k ts a (values (vals_of xs)) b
args_done {k = k} {ts = ts} {a = a} {b = b} xs r = subst (λ vs. Args k ts a (values vs) b) (appended-none (vals_of xs)) r

-- one more tree of a block
pub items_more : {k : ℕ} (xs : List Code) {i : ℕ} {x : Code} {a b c : At} {u v : Val} {o : End} → i < length xs → x ≡ get_or xs i x → Ends k (tree_of_code x) a (value v) b → Items k v (trees_of_codes (drop (i + 1) xs)) b o c → Items k u (trees_of_codes (drop i xs)) a o c
items_more {k = k} xs {i = i} {x = x} {a = a} {c = c} {u = u} {o = o} h e f r = subst (λ ts. Items k u ts a o c) (sym (trees_from xs i x h e)) (items_next f r)

pub items_no_more : {k : ℕ} (xs : List Code) {i : ℕ} {x : Code} {a b : At} {u : Val} {s : Halt} → i < length xs → x ≡ get_or xs i x → Ends k (tree_of_code x) a (halt s) b → Items k u (trees_of_codes (drop i xs)) a (halt s) b
items_no_more {k = k} xs {i = i} {x = x} {a = a} {b = b} {u = u} {s = s} h e f = subst (λ ts. Items k u ts a (halt s) b) (sym (trees_from xs i x h e)) (items_halt f)

pub items_end : {k : ℕ} (xs : List Code) {i : ℕ} {a : At} {u : Val} → length xs ≤ i → Items k u (trees_of_codes (drop i xs)) a (value u) a
items_end {k = k} xs {i = i} {a = a} {u = u} h = subst (λ ys. Items k u (trees_of_codes ys) a (value u) a) (sym (drop_all i xs h)) items_none

-- an outcome that is known only by an equation
pub runs_as : {k : ℕ} {t : Tree} {a b : At} {o p : End} → Runs k t a p b → o ≡ p → Runs k t a o b
runs_as {k = k} {t = t} {a = a} {b = b} r e = subst (λ o. Runs k t a o b) (sym e) r

-- the same of where it ends
pub ends_to : {k : ℕ} {t : Tree} {a b c : At} {o p : End} → Ends k t a p b → o ≡ p → c ≡ b → Ends k t a o c
ends_to {k = k} {t = t} {a = a} {c = c} {p = p} r e f = subst (λ o. Ends k t a o c) (sym e) (subst (λ d. Ends k t a p d) (sym f) r)

pub runs_to : {k : ℕ} {t : Tree} {a b c : At} {o p : End} → Runs k t a p b → o ≡ p → c ≡ b → Runs k t a o c
runs_to {k = k} {t = t} {a = a} {c = c} {p = p} r e f = subst (λ o. Runs k t a o c) (sym e) (subst (λ d. Runs k t a p d) (sym f) r)

-- the same where a datum is wanted
pub needs_to : {k : ℕ} {t : Tree} {a b c : At} {o p : End} → Needs k t a p b → o ≡ p → c ≡ b → Needs k t a o c
needs_to {k = k} {t = t} {a = a} {c = c} {p = p} r e f = subst (λ o. Needs k t a o c) (sym e) (subst (λ d. Needs k t a p d) (sym f) r)

-- a value's end was taken where a datum is wanted
pub end_taken : {k : ℕ} {t : Tree} {a b c : At} {v w : Val} → Ends k t a (value v) b → w ≡ given_by (ended v) b → c ≡ behind (ended v) b → Needs k t a (value w) c
end_taken r e f = needs_to (needs r) (ap value e) f

-- a slice of what an `Arc` holds
pub slice_of : {X : Type 0} {s : List X} {v u : Vec X Global} → s ≡ v.items → v ≡ u → s ≡ u.items
slice_of e f = e ∙ ap (λ v. v.items) f

-- a block's items, where its block is known
pub blocks : {xs ys : List Code} {o : End} {k : ℕ} {a b : At} → xs ≡ ys → Block k (trees_of_codes xs) a o b → Block k (trees_of_codes ys) a o b
blocks {o = o} {k = k} {a = a} {b = b} same r = subst (λ x. Block k (trees_of_codes x) a o b) same r

pub taking : {xs ys : List Code} {k : ℕ} {p : Pattern} {v w : Val} {a b : At} {o : End} → xs ≡ ys → v ≡ w → Taking k p v (trees_of_codes xs) a o b → Taking k p w (trees_of_codes ys) a o b
taking {ys = ys} {k = k} {p = p} {v = v} {a = a} {b = b} {o = o} same is r = subst (λ w. Taking k p w (trees_of_codes ys) a o b) is (subst (λ x. Taking k p v (trees_of_codes x) a o b) same r)

pub each : {xs ys : List Code} {k : ℕ} {p : Pattern} {vs ws : List Value} {a b : At} {o : End} → xs ≡ ys → vs ≡ ws → Each k p (trees_of_codes xs) (vals_of vs) a o b → Each k p (trees_of_codes ys) (vals_of ws) a o b
each {ys = ys} {k = k} {p = p} {vs = vs} {a = a} {b = b} {o = o} same is r = subst (λ ws. Each k p (trees_of_codes ys) (vals_of ws) a o b) is (subst (λ x. Each k p (trees_of_codes x) (vals_of vs) a o b) same r)

-- the names of a scope are truncated to those from before it
place_after : (w u : Working) (z : At) (n : ℕ) (own : Bool) → n ≡ length (at w).nouns → own ≡ w.own_scope → Grown (at w) (at u) → z ≡ record (at u) { nouns = oldest n (at u).nouns; own_scope = own } → z ≡ leaving (at w) (at u)
place_after w u z n own e f g h = h ∙ (λ i. record (at u) { nouns = truncated (at w).nouns (at u).nouns n e g i; own_scope = f i })

-- a block's scope ends
pub block_end : {k : ℕ} {ts : Trees} (w u : Working) {b z : At} {n : ℕ} {own : Bool} {o : End} → n ≡ length (at w).nouns → own ≡ w.own_scope → b ≡ entering (at w) → Items k null ts b o (at u) → z ≡ record (at u) { nouns = oldest n (at u).nouns; own_scope = own } → Block k ts (at w) o z
block_end {k = k} {ts = ts} w u {z = z} {n = n} {own = own} {o = o} e f q r h =
    let s : Items k null ts (entering (at w)) o (at u) = subst (λ x. Items k null ts x o (at u)) q r in
    subst (λ x. Block k ts (at w) o x) (sym (place_after w u z n own e f (items_grow s) h)) (in_block s)

-- the same of a block that takes a value
pub taking_end : {k : ℕ} {ts : Trees} (p : Pattern) (v : Val) (w u : Working) {b c z : At} {n : ℕ} {own : Bool} {o : End} → n ≡ length (at w).nouns → own ≡ w.own_scope → b ≡ entering (at w) → c ≡ matched p v b → Items k null ts c o (at u) → z ≡ record (at u) { nouns = oldest n (at u).nouns; own_scope = own } → Taking k p v ts (at w) o z
taking_end {k = k} {ts = ts} p v w u {z = z} {n = n} {own = own} {o = o} e f q m r h =
    let s : Items k null ts (matched p v (entering (at w))) o (at u) = subst (λ x. Items k null ts x o (at u)) (m ∙ ap (matched p v) q) r in
    subst (λ x. Taking k p v ts (at w) o x) (sym (place_after w u z n own e f (taken_grow p v (entering (at w)) s) h)) (in_taking s)

-- the values from an index on
pub vals_from : (xs : List Value) (i : ℕ) (x : Value) → i < length xs → x ≡ get_or xs i x → vals_of (drop i xs) ≡ and_val (val_of x) (vals_of (drop (i + 1) xs))
vals_from xs i x h e = rw add-one (ap vals_of (drop-cons xs i x h) ∙ ap (λ y. and_val (val_of y) (vals_of (drop (suc i) xs))) (sym e))

-- a block for one more value
pub each_more : {k : ℕ} {p : Pattern} {ts : Trees} (xs : List Value) {i : ℕ} {x : Value} {a b c : At} {v : Val} {o : End} → i < length xs → x ≡ get_or xs i x → Taking k p (val_of x) ts a (value v) b → Each k p ts (vals_of (drop (i + 1) xs)) b o c → Each k p ts (vals_of (drop i xs)) a o c
each_more {k = k} {p = p} {ts = ts} xs {i = i} {x = x} {a = a} {c = c} {o = o} h e f r = subst (λ vs. Each k p ts vs a o c) (sym (vals_from xs i x h e)) (each_next f r)

pub each_no_more : {k : ℕ} {p : Pattern} {ts : Trees} (xs : List Value) {i : ℕ} {x : Value} {a b : At} {s : Halt} → i < length xs → x ≡ get_or xs i x → Taking k p (val_of x) ts a (halt s) b → Each k p ts (vals_of (drop i xs)) a (halt s) b
each_no_more {k = k} {p = p} {ts = ts} xs {i = i} {x = x} {a = a} {b = b} {s = s} h e f = subst (λ vs. Each k p ts vs a (halt s) b) (sym (vals_from xs i x h e)) (each_halt f)

pub each_end : {k : ℕ} {p : Pattern} {ts : Trees} (xs : List Value) {i : ℕ} {a : At} → length xs ≤ i → Each k p ts (vals_of (drop i xs)) a (value null) a
each_end {k = k} {p = p} {ts = ts} xs {i = i} {a = a} h = subst (λ ys. Each k p ts (vals_of ys) a (value null) a) (sym (drop_all i xs h)) each_none

-- what the next rounds of a While give, where the names are those of this round's beginning
pub next_round : {k : ℕ} {t : Tree} (w u : Working) {b : At} {n : ℕ} {p : End} {e : At} → n ≡ length (at w).nouns → Grown (at w) (at u) → b ≡ record (at u) { nouns = oldest n (at u).nouns } → Runs k t b p e → Runs k t (again (at w) (at u)) p e
next_round {k = k} {t = t} w u {n = n} {p = p} {e = e} l g h r =
    subst (λ ns. Runs k t (record (at u) { nouns = ns }) p e) (truncated (at w).nouns (at u).nouns n l g) (subst (λ b. Runs k t b p e) h r)

-- arguments, where their slice is known otherwise
pub args_as : {xs ys : List Code} {k : ℕ} {a b : At} {g : Gather} → xs ≡ ys → Args k (trees_of_codes xs) a g b → Args k (trees_of_codes ys) a g b
args_as {k = k} {a = a} {b = b} {g = g} same r = subst (λ xs. Args k (trees_of_codes xs) a g b) same r

-- the only one of a list
pub only_one : (xs : List Code) (x : Code) → length xs ≡ 1 → x ≡ get_or xs 0 x → (x ∷ []) ≡ xs
only_one [] x l e = absurd (cc)
only_one (y ∷ []) x l e = ap (λ y. y ∷ []) e
only_one (y ∷ z ∷ zs) x l e = absurd (omega (arith, l))

-- a call's only argument
pub one_arg : {k : ℕ} {t : Tree} {a b : At} {v : Value} {vs : List Value} → vs ≡ v ∷ [] → Ends k t a (value (val_of v)) b → Args k (and_then t none) a (values (vals_of vs)) b
one_arg {k = k} {t = t} {a = a} {b = b} e r = subst (λ us. Args k (and_then t none) a (values (vals_of us)) b) (sym e) (args_next r args_none)
