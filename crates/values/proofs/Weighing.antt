-- Weights and depths of items, as the program counts them.
use Rattle.std.proofs.Common.{◌≡◌, ℕ, Bool, true, false, ◌&&◌, ◌||◌, refl, nat_le, get_or, drop, is_some, ⊎_elim, ◌+◌, ◌-◌, ◌<◌, ◌≤◌, max, List, [], ◌∷◌, ◌++◌, length, Option, Some, None, sym, ap, ◌∙◌, zero, suc, arith}
use Rattle.std.specs.Option.{SomeIff}
use Rattle.std.specs.Ordering.{nat_cmp, ord_max}
use Rattle.std.proofs.lemmas.List.{drop_all}
use Rattle.std.proofs.lemmas.Bool.{cases_lt}
use Rattle.std.proofs.lemmas.Bool.Decides.{nat_tests}
use Rattle.values.specs.Data.{Val, Vals, no_vals, and_val, list}
use Rattle.values.specs.Items.{IsMeasured}
use Rattle.values.specs.Limits.{weight, weights, list_depth, deepest}
use Rattle.values.specs.Promises.{promise_in, promises_in}
use Rattle.values.specs.Replies.{joined}
use Rattle.values.specs.View.{val_of, vals_of}
use Rattle.values.specs.declared.value.Value.{Value}
use Rattle.values.proofs.Tables.{vals_from, joined-vals_of}
use Rattle.values.specs.Limits.{within_limits}

-- a list weighs 1 more than its items, and stands 1 deeper
pub list_left : (r : Option ℕ) (w d left depth l m : ℕ) → 1 ≤ left → l ≡ left - 1 → 1 ≤ depth → m ≡ depth - 1 → SomeIff r ((w ≤ l) × (d ≤ m)) (l - w) → SomeIff r ((1 + w ≤ left) × (1 + d ≤ depth)) (left - (1 + w))
list_left None w d left depth l m a b e f h = λ k. h (omega (arith, k.0), omega (arith, k.1))
list_left (Some x) w d left depth l m a b e f h = ((omega (arith, h.0.0), omega (arith, h.0.1)), omega (arith, h.0.0, h.1))

pub weights-joined : (us vs : Vals) → weights (joined us vs) ≡ weights us + weights vs
weights-joined no_vals vs = omega arith
weights-joined (and_val u us) vs = omega (arith, weights-joined us vs)

pub deepest-joined : (us vs : Vals) → deepest (joined us vs) ≡ max (deepest us) (deepest vs)
deepest-joined no_vals vs = omega arith
deepest-joined (and_val u us) vs = omega (arith, deepest-joined us vs)

or_no : (b : Bool) → b ≡ (b || false)
or_no true = refl
or_no false = refl

or_or : (a b c : Bool) → (a || (b || c)) ≡ ((a || b) || c)
or_or true b c = refl
or_or false b c = refl

pub promises-joined : (us vs : Vals) → promises_in (joined us vs) ≡ (promises_in us || promises_in vs)
promises-joined no_vals vs = refl
promises-joined (and_val u us) vs = ap (λ t. promise_in u || t) (promises-joined us vs) ∙ or_or (promise_in u) (promises_in us) (promises_in vs)

one_more : (r : Option ℕ) (w d ws ds left next depth : ℕ) → (w ≤ left) × (d ≤ depth) → next ≡ left - w → SomeIff r ((ws ≤ next) × (ds ≤ depth)) (next - ws) → SomeIff r ((w + ws ≤ left) × (max d ds ≤ depth)) (left - (w + ws))
one_more None w d ws ds left next depth f g h = λ k. h (omega (arith, k.0, f.0), omega (arith, k.1))
one_more (Some x) w d ws ds left next depth f g h = ((omega (arith, h.0.0, f.0), omega (arith, h.0.1, f.1)), omega (arith, h.0.0, h.1, f.0))

-- one more item: what the rest leaves from there is what this item and the rest leave from here
pub more_left : (r : Option ℕ) (xs : List Value) (i : ℕ) (x : Value) (left next depth : ℕ) → i < length xs → x ≡ get_or xs i x → (weight (val_of x) ≤ left) × (list_depth (val_of x) ≤ depth) → next ≡ left - weight (val_of x)
    → SomeIff r ((weights (vals_of (drop (i + 1) xs)) ≤ next) × (deepest (vals_of (drop (i + 1) xs)) ≤ depth)) (next - weights (vals_of (drop (i + 1) xs)))
    → SomeIff r ((weights (vals_of (drop i xs)) ≤ left) × (deepest (vals_of (drop i xs)) ≤ depth)) (left - weights (vals_of (drop i xs)))
more_left r xs i x left next depth a e f g h = rw (vals_from xs i x a e) (one_more r _ _ _ _ left next depth f g h)

-- an item that passes a limit
pub none_left : (xs : List Value) (i : ℕ) (x : Value) (left depth : ℕ) → i < length xs → x ≡ get_or xs i x → ¬ ((weight (val_of x) ≤ left) × (list_depth (val_of x) ≤ depth)) → ¬ ((weights (vals_of (drop i xs)) ≤ left) × (deepest (vals_of (drop i xs)) ≤ depth))
none_left xs i x left depth a e f = rw (vals_from xs i x a e) (λ k. f (omega (arith, k.0), omega (arith, k.1)))

by_cases_le : {P : Type 0} (a b : ℕ) → (a ≤ b → P) → (b < a → P) → P
by_cases_le a b p q = ⊎_elim q p (cases_lt b a)

both_at_most : (a b c d : ℕ) → a ≤ b → c ≤ d → (nat_le a b && nat_le c d) ≡ true
both_at_most a b c d p q = grind (arith, nat_tests)

one_above : (a b c d : ℕ) → ¬ ((a ≤ b) × (c ≤ d)) → (nat_le a b && nat_le c d) ≡ false
one_above a b c d p = by_cases_le a b (λ h. by_cases_le c d (λ k. absurd (p (h, k))) (λ k. grind (arith, nat_tests))) (λ h. grind (arith, nat_tests))

-- whether two lists joined keep the limits
pub joined_within : (us vs : Vals) (left : ℕ) (r : Option ℕ) → (weights us ≤ 65535) × (deepest us ≤ 63) → left ≡ 65535 - weights us → SomeIff r ((weights vs ≤ left) × (deepest vs ≤ 63)) (left - weights vs) → is_some r ≡ within_limits (list (joined us vs))
joined_within us vs left None f g h = sym (one_above (1 + weights (joined us vs)) 65536 (1 + deepest (joined us vs)) 64 (λ k. h (omega (arith, k.0, weights-joined us vs, f.0), omega (arith, k.1, deepest-joined us vs))))
joined_within us vs left (Some x) f g h = sym (both_at_most (1 + weights (joined us vs)) 65536 (1 + deepest (joined us vs)) 64 (omega (arith, weights-joined us vs, h.0.0, f.0)) (omega (arith, deepest-joined us vs, h.0.1, f.1)))

-- the end of the items
pub last_left : (xs : List Value) (i : ℕ) (left depth : ℕ) → length xs ≤ i → SomeIff (Some left) ((weights (vals_of (drop i xs)) ≤ left) × (deepest (vals_of (drop i xs)) ≤ depth)) (left - weights (vals_of (drop i xs)))
last_left xs i left depth h = rw (drop_all i xs h) ((omega arith, omega arith), omega arith)

-- the greater of two, as the program finds it
max_of : (a b : ℕ) → ord_max nat_cmp a b ≡ max a b
max_of a b = by_cases_le a b (λ h. grind (arith, nat_tests)) (λ h. grind (arith, nat_tests))

-- how deep lists stand in items, with one item more
pub deepest_more : (xs : List Value) (i : ℕ) (x : Value) (all depth next d : ℕ) → i < length xs → x ≡ get_or xs i x → d ≡ list_depth (val_of x) → next ≡ ord_max nat_cmp depth d
    → max depth (deepest (vals_of (drop i xs))) ≡ all → max next (deepest (vals_of (drop (i + 1) xs))) ≡ all
deepest_more xs i x all depth next d a e f g h =
    let p : deepest (vals_of (drop i xs)) ≡ max (list_depth (val_of x)) (deepest (vals_of (drop (i + 1) xs))) = ap deepest (vals_from xs i x a e) in
    let q : next ≡ max depth d = g ∙ max_of depth d in
    omega arith

pub deepest_end : (xs : List Value) (i all depth : ℕ) → length xs ≤ i → max depth (deepest (vals_of (drop i xs))) ≡ all → depth ≡ all
deepest_end xs i all depth h g =
    let p : deepest (vals_of (drop i xs)) ≡ 0 = ap (λ ys. deepest (vals_of ys)) (drop_all i xs h) in
    omega arith

-- whether one of two holds, as the program finds it
pub one_holds : {p b : Bool} (q : Bool) → b ≡ p → p ≡ true → b ≡ (p || q)
one_holds q e f = e ∙ f ∙ ap (λ t. t || q) (sym f)

pub none_held : {p q r b : Bool} → b ≡ r → r ≡ q → p ≡ false → b ≡ (p || q)
none_held {q = q} e f g = e ∙ f ∙ ap (λ t. t || q) (sym g)

-- what is kept beside items, with one item more at their end
pub measured_more : (w d u e v : ℕ) (p b : Bool) (xs ys : List Value) (x : Value) (vs : Vals) → IsMeasured w d p (vals_of xs) → vals_of xs ≡ vs → weights vs + weight (val_of x) ≤ 65535 → list_depth (val_of x) ≤ 63
    → ys ≡ xs ++ x ∷ [] → u ≡ weight (val_of x) → e ≡ list_depth (val_of x) → v ≡ max d e → b ≡ (p || promise_in (val_of x)) → IsMeasured (w + u) v b (vals_of ys)
measured_more w d u e v p b xs ys x vs m is light shallow a f r s h =
    let all : vals_of ys ≡ joined (vals_of xs) (and_val (val_of x) no_vals) = ap vals_of a ∙ joined-vals_of xs (x ∷ []) in
    let weigh : weights (vals_of ys) ≡ weights (vals_of xs) + (weight (val_of x) + 0) = ap weights all ∙ weights-joined (vals_of xs) (and_val (val_of x) no_vals) in
    let stand : deepest (vals_of ys) ≡ max (deepest (vals_of xs)) (max (list_depth (val_of x)) 0) = ap deepest all ∙ deepest-joined (vals_of xs) (and_val (val_of x) no_vals) in
    let same : weights (vals_of xs) ≡ weights vs = ap weights is in
    let more : v ≡ max d e = s in
    let wm : w ≡ weights (vals_of xs) = m.weight in
    let dm : d ≡ deepest (vals_of xs) = m.depth in
    let sm : deepest (vals_of xs) ≤ 63 = m.shallow in
    let some : promises_in (vals_of ys) ≡ (promises_in (vals_of xs) || promises_in (and_val (val_of x) no_vals)) = ap promises_in all ∙ promises-joined (vals_of xs) (and_val (val_of x) no_vals) in
    let mark : b ≡ promises_in (vals_of ys) = h ∙ ap (λ t. t || promise_in (val_of x)) m.promise ∙ ap (λ t. promises_in (vals_of xs) || t) (or_no (promise_in (val_of x))) ∙ sym some in
    record { weight = omega arith; depth = omega arith; promise = mark; light = omega arith; shallow = omega arith }

-- an item among those that are left has room
pub item_light : (xs : List Value) (i : ℕ) (x : Value) (y : Val) (w : ℕ) → i < length xs → x ≡ get_or xs i x → y ≡ val_of x → w + weights (vals_of (drop i xs)) ≤ 65535 → w + weight y ≤ 65535
item_light xs i x y w a e f h =
    let p : weights (vals_of (drop i xs)) ≡ weight (val_of x) + weights (vals_of (drop (i + 1) xs)) = ap weights (vals_from xs i x a e) in
    let q : weight y ≡ weight (val_of x) = ap weight f in
    omega arith

pub item_shallow : (xs : List Value) (i : ℕ) (x : Value) (y : Val) → i < length xs → x ≡ get_or xs i x → y ≡ val_of x → deepest (vals_of (drop i xs)) ≤ 63 → list_depth y ≤ 63
item_shallow xs i x y a e f h =
    let p : deepest (vals_of (drop i xs)) ≡ max (list_depth (val_of x)) (deepest (vals_of (drop (i + 1) xs))) = ap deepest (vals_from xs i x a e) in
    let q : list_depth y ≡ list_depth (val_of x) = ap list_depth f in
    omega arith

-- and so have those behind it
pub rest_light : (xs : List Value) (i : ℕ) (x : Value) (y : Val) (us vs : Vals) → i < length xs → x ≡ get_or xs i x → y ≡ val_of x → vs ≡ joined us (and_val y no_vals) → weights us + weights (vals_of (drop i xs)) ≤ 65535 → weights vs + weights (vals_of (drop (i + 1) xs)) ≤ 65535
rest_light xs i x y us vs a e f g h =
    let p : weights (vals_of (drop i xs)) ≡ weight (val_of x) + weights (vals_of (drop (i + 1) xs)) = ap weights (vals_from xs i x a e) in
    let q : weight y ≡ weight (val_of x) = ap weight f in
    let r : weights vs ≡ weights us + (weight y + 0) = ap weights g ∙ weights-joined us (and_val y no_vals) in
    omega arith

pub rest_shallow : (xs : List Value) (i : ℕ) (x : Value) → i < length xs → x ≡ get_or xs i x → deepest (vals_of (drop i xs)) ≤ 63 → deepest (vals_of (drop (i + 1) xs)) ≤ 63
rest_shallow xs i x a e h =
    let p : deepest (vals_of (drop i xs)) ≡ max (list_depth (val_of x)) (deepest (vals_of (drop (i + 1) xs))) = ap deepest (vals_from xs i x a e) in
    omega arith

-- no item weighs more than all
pub item_weighs : (xs : List Value) (i : ℕ) (x : Value) → i < length xs → x ≡ get_or xs i x → weight (val_of x) ≤ weights (vals_of xs)
item_weighs [] i x h e = absurd (omega arith)
item_weighs (y ∷ ys) zero x h e = let p : weight (val_of x) ≡ weight (val_of y) = ap (λ v. weight (val_of v)) e in omega arith
item_weighs (y ∷ ys) (suc i) x h e = omega (arith, item_weighs ys i x (omega arith) e)

-- nor does one of those that are left
pub next_weighs : (us cs : List Value) (x : Value) (w : ℕ) → us ≡ x ∷ cs → weights (vals_of us) ≤ w → (weight (val_of x) ≤ w) × (weights (vals_of cs) ≤ w)
next_weighs us cs x w p h =
    let e : weights (vals_of us) ≡ weight (val_of x) + weights (vals_of cs) = ap (λ vs. weights (vals_of vs)) p in
    (omega arith, omega arith)
