-- Settled forms, as the program makes them.
use Rattle.std.proofs.Common.{◌≡◌, ℕ, zero, suc, ◌+◌, ◌-◌, ◌<◌, ◌≤◌, true, false, cond, List, [], ◌∷◌, ◌++◌, length, get_or, take, drop, Option, Some, None, option_map, Result, Ok, Err, IfOk, ◌⊎◌, inl, inr, Vec, Global, refl, sym, ap, ◌∙◌, append-nil, append_assoc, max, codes, arith}
use Rattle.std.specs.Result.{OnOk}
use Rattle.std.specs.declared.alloc.AllocError.{AllocError}
use Rattle.std.proofs.lemmas.Bool.{le-leb}
use Rattle.std.specs.Cmp.Derive.{both_true}
use Rattle.std.proofs.lemmas.List.{drop_all, take_more}
use Rattle.ids.specs.declared.names.PromId.{PromId}
use Rattle.values.specs.Data.{Val, promise, list, gives, throws, Vals, no_vals, and_val}
use Rattle.values.specs.Limits.{weight, weights, list_depth, deepest, within_limits}
use Rattle.values.specs.Promises.{promise_of, promise_in}
use Rattle.values.specs.Replies.{items_in, joined, list_reply, value_given}
use Rattle.values.specs.View.{val_of, vals_of}
use Rattle.values.specs.declared.value.Value.{Value}
use Rattle.values.proofs.Tables.{joined-vals_of, joined-joined}
use Rattle.values.proofs.Weighing.{weights-joined, deepest-joined}
use Rattle.refs.specs.Forms.{formed, gathered}
use Rattle.refs.specs.declared.settling.Form.{Form}
use Rattle.refs.specs.Settling.{Settling, ItemsSettling, fitted, too_large, and_behind, settle_items, settle_end, settle_at, list_at}
use Rattle.refs.specs.Walks.{Resolutions, walked, followed}
use Rattle.refs.proofs.Settled.{settle_at-is, settle_plain, settle_own, leaf, no_list, list_is, Within}
use Rattle.refs.proofs.Way.{own_end, is_promise}

-- ---- a value by its end

no_promise : (v : Val) → promise_in v ≡ false → None ≡ promise_of v
no_promise (promise p) e = absurd (cc)
no_promise _ e = refl

-- a value settles as its end
pub end_found : (m : Resolutions) (depth left : ℕ) (v e : Val) → e ≡ followed m v
    → ((settle_at m depth left v).settled ≡ (settle_end (list_at m depth) left e (items_in e)).settled) × ((settle_at m depth left v).through ≡ walked m v ++ (settle_end (list_at m depth) left e (items_in e)).through)
end_found m depth left v e p =
    let i = settle_at-is m depth left v in
    let s : settle_end (list_at m depth) left (followed m v) (items_in (followed m v)) ≡ settle_end (list_at m depth) left e (items_in e) = ap (λ x. settle_end (list_at m depth) left x (items_in x)) (sym p) in
    (ap (λ (x : Settling). x.settled) i ∙ ap (λ (x : Settling). x.settled) s, ap (λ (x : Settling). x.through) i ∙ ap (λ (x : Settling). walked m v ++ x.through) s)

-- a value and its end are the same promise, or none: it is its own end
pub own_of : (m : Resolutions) (v e : Val) → e ≡ followed m v → promise_of v ≡ promise_of e → v ≡ e
own_of m (promise p) e f q = sym (is_promise e p q)
own_of m v e f q = sym (f ∙ (own_end m v refl).1)

-- an end that is no list, or in which no promise stands
pub plain_end : (m : Resolutions) (depth left : ℕ) (e : Val) → (None ≡ items_in e) ⊎ (promise_in e ≡ false) → settle_end (list_at m depth) left e (items_in e) ≡ record { through = []; settled = fitted depth left e }
plain_end m depth left e (inl g) = ap (settle_end (list_at m depth) left e) (sym g) ∙ ap (λ (x : Option Val). record { through = []; settled = x }) (leaf depth left e (no_list e g))
plain_end m depth left e (inr h) = sym (settle_own m depth left e (no_promise e h)) ∙ settle_plain m depth left e h

-- an end that is a list
pub list_end : (m : Resolutions) (depth left : ℕ) (e : Val) (us : Vals) → Some us ≡ items_in e → (list us ≡ e) × (list_at m depth left us ≡ settle_end (list_at m depth) left e (items_in e))
list_end m depth left e us q = (sym (list_is e us (sym q)), ap (settle_end (list_at m depth) left e) q)

-- ---- items, one after another

pub list_one : (m : Resolutions) (depth left : ℕ) (vs : Vals) → 0 < depth → 0 < left
    → ((list_at m depth left vs).settled ≡ option_map list (settle_items (settle_at m (depth - 1)) (left - 1) vs).settled) × ((list_at m depth left vs).through ≡ (settle_items (settle_at m (depth - 1)) (left - 1) vs).through)
list_one m zero left vs h k = absurd (omega arith)
list_one m (suc depth) zero vs h k = absurd (omega arith)
list_one m (suc depth) (suc left) vs h k =
    let d : depth ≡ suc depth - 1 = omega arith in
    let l : left ≡ suc left - 1 = omega arith in (
      ap (λ x. option_map list (settle_items (settle_at m x) left vs).settled) d ∙ ap (λ x. option_map list (settle_items (settle_at m (suc depth - 1)) x vs).settled) l,
      ap (λ x. (settle_items (settle_at m x) left vs).through) d ∙ ap (λ x. (settle_items (settle_at m (suc depth - 1)) x vs).through) l,
    )

pub list_none : (m : Resolutions) (depth left : ℕ) (vs : Vals) → (depth ≡ 0) ⊎ (left ≡ 0) → list_at m depth left vs ≡ too_large
list_none m zero left vs h = refl
list_none m (suc depth) zero vs h = refl
list_none m (suc depth) (suc left) vs (inl e) = absurd (omega arith)
list_none m (suc depth) (suc left) vs (inr e) = absurd (omega arith)

-- how far the items of a list are settled: those in a row, those that are left, and the promises that were walked
pub record IsSettled (item : ℕ → Val → Settling) (depth left : ℕ) (before now : List PromId) (all rest : Vals) (row : Vals) (l : ℕ) : Type 0 where
  pub through : now ++ (settle_items item l rest).through ≡ before ++ (settle_items item left all).through
  pub settled : option_map (joined row) (settle_items item l rest).settled ≡ (settle_items item left all).settled
  pub light : l + weights row ≡ left
  pub shallow : deepest row ≤ depth

mapped_itself : (o : Option Vals) → option_map (joined no_vals) o ≡ o
mapped_itself None = refl
mapped_itself (Some vs) = refl

pub settled_begins : (item : ℕ → Val → Settling) (depth left : ℕ) (before : List PromId) (all : Vals) → IsSettled item depth left before before all all no_vals left
settled_begins item depth left before all = record { through = refl; settled = mapped_itself _; light = omega arith; shallow = omega arith }

mapped_more : (row : Vals) (w : Val) (o : Option Vals) → option_map (joined (joined row (and_val w no_vals))) o ≡ option_map (joined row) (option_map (and_val w) o)
mapped_more row w None = refl
mapped_more row w (Some vs) = ap Some (joined-joined row (and_val w no_vals) vs)

-- one more item
pub settled_more : (item : ℕ → Val → Settling) (depth left : ℕ) (before now next : List PromId) (all rest row : Vals) (l : ℕ) (v w : Val) → IsSettled item depth left before now all (and_val v rest) row l → next ≡ now ++ (item l v).through → Some w ≡ (item l v).settled → Within depth l w
    → IsSettled item depth left before next all rest (joined row (and_val w no_vals)) (l - weight w)
settled_more item depth left before now next all rest row l v w h t s k =
    let b = ap (λ (o : Option Val). and_behind (item l v).through o (λ x. settle_items item (l - weight x) rest)) (sym s) in
    let e : weights (joined row (and_val w no_vals)) ≡ weights row + (weight w + 0) = weights-joined row (and_val w no_vals) in
    let d : deepest (joined row (and_val w no_vals)) ≡ max (deepest row) (max (list_depth w) 0) = deepest-joined row (and_val w no_vals) in
    record {
      through = ap (λ ps. ps ++ (settle_items item (l - weight w) rest).through) t ∙ append_assoc now (item l v).through _ ∙ ap (λ (x : ItemsSettling). now ++ x.through) (sym b) ∙ h.through;
      settled = mapped_more row w (settle_items item (l - weight w) rest).settled ∙ ap (λ (x : ItemsSettling). option_map (joined row) x.settled) (sym b) ∙ h.settled;
      light = omega (arith, e, h.light, k.0);
      shallow = omega (arith, d, h.shallow, k.1);
    }

-- an item that passes a limit
pub settled_stops : (item : ℕ → Val → Settling) (depth left : ℕ) (before now next : List PromId) (all rest row : Vals) (l : ℕ) (v : Val) → IsSettled item depth left before now all (and_val v rest) row l → next ≡ now ++ (item l v).through → None ≡ (item l v).settled
    → ((settle_items item left all).settled ≡ None) × (next ≡ before ++ (settle_items item left all).through)
settled_stops item depth left before now next all rest row l v h t s =
    let b = ap (λ (o : Option Val). and_behind (item l v).through o (λ x. settle_items item (l - weight x) rest)) (sym s) in
    (sym h.settled ∙ ap (λ (x : ItemsSettling). option_map (joined row) x.settled) b, t ∙ ap (λ (x : ItemsSettling). now ++ x.through) (sym b) ∙ h.through)

joined-nothing : (row : Vals) → joined row no_vals ≡ row
joined-nothing no_vals = refl
joined-nothing (and_val v row) = ap (and_val v) (joined-nothing row)

-- all items
pub settled_ends : (item : ℕ → Val → Settling) (depth left : ℕ) (before now : List PromId) (all row : Vals) (l : ℕ) → IsSettled item depth left before now all no_vals row l
    → ((settle_items item left all).settled ≡ Some row) × (now ≡ before ++ (settle_items item left all).through)
settled_ends item depth left before now all row l h = (sym h.settled ∙ ap Some (joined-nothing row), sym (append-nil now) ∙ h.through)

-- a list of them keeps the limits of a value
pub list_given : (depth left l : ℕ) (row : Vals) → depth ≤ 63 → left ≤ 65535 → l + weights row ≡ left → deepest row ≤ depth → value_given (list_reply row) ≡ Some (list row)
list_given depth left l row d w e h =
    let b : within_limits (list row) ≡ true = both_true (le-leb (1 + weights row) 65536 (omega arith)) (le-leb (1 + deepest row) 64 (omega arith)) in
    ap (λ b. value_given (cond b (gives (list row)) (throws (codes "value too large")))) b

-- ---- what the program answers

pub settled_is : (r : Result (Option Form) AllocError) (v w : Val) (x y : Option Val) → v ≡ w → x ≡ y → IfOk r (λ o. option_map (formed v) o ≡ x) → IfOk r (λ o. option_map (formed w) o ≡ y)
settled_is (Ok o) v w x y d e h = ap (λ u. option_map (formed u) o) (sym d) ∙ h ∙ e
settled_is (Err a) v w x y d e h = tt

pub other_is : (r : Result (Option Form) AllocError) (v : Val) (x y : Option Val) → x ≡ y → IfOk r (λ o. (own : Val) → option_map (formed own) o ≡ x) → IfOk r (λ o. option_map (formed v) o ≡ y)
other_is (Ok o) v x y e h = h v ∙ e
other_is (Err a) v x y e h = tt

pub through_is : (r : Result (Option Form) AllocError) (old new more all : List PromId) → more ≡ all → OnOk r (new ≡ old ++ more) → OnOk r (new ≡ old ++ all)
through_is (Ok o) old new more all e h = h ∙ ap (λ ps. old ++ ps) e
through_is (Err a) old new more all e h = tt

-- the items from an index on, where it is the last
pub none_left : (xs : List Value) (i : ℕ) → length xs ≤ i → vals_of (drop i xs) ≡ no_vals
none_left xs i h = ap vals_of (drop_all i xs h)

-- the settled items that are gathered: those of a row, or a list's own
abbrev pub in_row : Vals → Option (Vec Value Global) → Vals
in_row own row = gathered own (option_map (λ r. r.items) row)

-- one more settled item, by one more of a list's own
pub row_more : (xs : List Value) (i : ℕ) (x : Value) (row new : Option (Vec Value Global)) (w : Val) → i < length xs → x ≡ get_or xs i x
    → in_row (joined (vals_of (take i xs)) (and_val (val_of x) no_vals)) new ≡ joined (in_row (vals_of (take i xs)) row) (and_val w no_vals)
    → joined (in_row (vals_of (take i xs)) row) (and_val w no_vals) ≡ in_row (vals_of (take (i + 1) xs)) new
row_more xs i x row new w h e k =
    let t : joined (vals_of (take i xs)) (and_val (val_of x) no_vals) ≡ vals_of (take (i + 1) xs) = sym (ap vals_of (take_more xs i x h ∙ ap (λ y. take i xs ++ y ∷ []) (sym e)) ∙ joined-vals_of (take i xs) (x ∷ [])) in
    sym k ∙ ap (λ us. in_row us new) t
