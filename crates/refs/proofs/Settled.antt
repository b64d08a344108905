-- Settled forms: what they weigh, and those in which no promise stands.
use Rattle.std.proofs.Common.{◌≡◌, ℕ, zero, suc, ◌+◌, ◌-◌, ◌≤◌, max, nat_le, Bool, true, false, ◌&&◌, ◌||◌, cond, List, [], ◌++◌, Option, Some, None, option_map, refl, sym, ap, ◌∙◌, subst, arith}
use Rattle.std.proofs.lemmas.Bool.{leb-true}
use Rattle.std.proofs.lemmas.Bool.Decides.{nat_tests}
use Rattle.ids.specs.declared.names.PromId.{PromId}
use Rattle.values.specs.Data.{Val, null, bool, int, text, list, object, ejector, promise, broken, Vals, no_vals, and_val}
use Rattle.values.specs.Limits.{weight, weights, list_depth, deepest}
use Rattle.values.specs.Promises.{promise_of, promise_in, promises_in}
use Rattle.values.specs.Replies.{items_in}
use Rattle.refs.specs.Settling.{Settling, ItemsSettling, fitted, and_behind, settle_items, settle_list, settle_end, settle_walk, no_lists, settle_at, list_at}
use Rattle.refs.specs.Walks.{Resolutions, followed}
use Rattle.refs.proofs.Way.{own_end}

-- ---- by the end

pub settle_at-is : (m : Resolutions) (depth left : ℕ) (v : Val) → settle_at m depth left v ≡ settle_walk m (list_at m depth) left v
unfolding settle_at
settle_at-is m zero left v = refl
settle_at-is m (suc depth) left v = refl

-- a value that is no promise settles as its own end
pub settle_own : (m : Resolutions) (depth left : ℕ) (v : Val) → None ≡ promise_of v → settle_at m depth left v ≡ settle_end (list_at m depth) left v (items_in v)
settle_own m depth left v e =
    let w = own_end m v e in
    let P : List PromId → Val → Settling = λ ps u. record { through = ps ++ (settle_end (list_at m depth) left u (items_in u)).through; settled = (settle_end (list_at m depth) left u (items_in u)).settled } in
    settle_at-is m depth left v ∙ ap (λ ps. P ps (followed m v)) w.0 ∙ ap (P []) w.1

-- ---- limits

pub no_list : (v : Val) → None ≡ items_in v → list_depth v ≡ 0
no_list (list vs) e = absurd (cc)
no_list _ e = refl

pub list_is : (v : Val) (us : Vals) → items_in v ≡ Some us → v ≡ list us
list_is (list vs) us e = let f : vs ≡ us = cc in ap list f
list_is _ us e = absurd (cc)

pub leaf : (depth left : ℕ) (v : Val) → list_depth v ≡ 0 → fitted 0 left v ≡ fitted depth left v
leaf depth left v e = let f : nat_le (list_depth v) 0 ≡ nat_le (list_depth v) depth = grind (arith, nat_tests) in ap (λ b. cond (nat_le (weight v) left && b) (Some v) None) f

fits_more : (w d ws ds left depth : ℕ) → (nat_le (w + ws) left && nat_le (max d ds) depth) ≡ ((nat_le w left && nat_le d depth) && (nat_le ws (left - w) && nat_le ds depth))
fits_more w d ws ds left depth = grind (arith, nat_tests)

fits_list : (w d left depth : ℕ) → (nat_le (1 + w) (suc left) && nat_le (1 + d) (suc depth)) ≡ (nat_le w left && nat_le d depth)
fits_list w d left depth = grind (arith, nat_tests)

none_shallow : (w d left : ℕ) → (nat_le (1 + w) left && nat_le (1 + d) 0) ≡ false
none_shallow w d left = grind (arith, nat_tests)

none_light : (w d depth : ℕ) → (nat_le (1 + w) 0 && nat_le (1 + d) depth) ≡ false
none_light w d depth = grind (arith, nat_tests)

-- ---- no promise

-- items that may have this depth and weight, if they have no more
abbrev pub items_fitted : ℕ → ℕ → Vals → Option Vals
items_fitted depth left vs = cond (nat_le (weights vs) left && nat_le (deepest vs) depth) (Some vs) None

-- nothing was walked
abbrev plain : Option Val → Settling
plain o = record { through = []; settled = o }

abbrev plain_items : Option Vals → ItemsSettling
plain_items o = record { through = []; settled = o }

mapped_cond : (b : Bool) (vs : Vals) → option_map list (cond b (Some vs) None) ≡ cond b (Some (list vs)) None
mapped_cond true vs = refl
mapped_cond false vs = refl

-- a list, by its items
list_plain : (m : Resolutions) (depth left : ℕ) (vs : Vals) → ((d l : ℕ) → settle_items (settle_at m d) l vs ≡ plain_items (items_fitted d l vs)) → list_at m depth left vs ≡ plain (fitted depth left (list vs))
list_plain m zero left vs h = ap (λ b. plain (cond b (Some (list vs)) None)) (sym (none_shallow (weights vs) (deepest vs) left))
list_plain m (suc depth) zero vs h = ap (λ b. plain (cond b (Some (list vs)) None)) (sym (none_light (weights vs) (deepest vs) (suc depth)))
list_plain m (suc depth) (suc left) vs h =
    ap (λ (s : ItemsSettling). record { through = s.through; settled = option_map list s.settled }) (h depth left)
    ∙ ap plain (mapped_cond (nat_le (weights vs) left && nat_le (deepest vs) depth) vs)
    ∙ ap (λ b. plain (cond b (Some (list vs)) None)) (sym (fits_list (weights vs) (deepest vs) left depth))

joined_cond : (b c : Bool) (v : Val) (vs : Vals) (rest : Val → ItemsSettling) → rest v ≡ plain_items (cond c (Some vs) None) → and_behind [] (cond b (Some v) None) rest ≡ plain_items (cond (b && c) (Some (and_val v vs)) None)
joined_cond false c v vs rest h = refl
joined_cond true true v vs rest h = ap (λ (s : ItemsSettling). record { through = s.through; settled = option_map (and_val v) s.settled }) h
joined_cond true false v vs rest h = ap (λ (s : ItemsSettling). record { through = s.through; settled = option_map (and_val v) s.settled }) h

-- one item, and those behind it
items_plain : (f : ℕ → Val → Settling) (depth left : ℕ) (v : Val) (vs : Vals) → f left v ≡ plain (fitted depth left v) → settle_items f (left - weight v) vs ≡ plain_items (items_fitted depth (left - weight v) vs) → settle_items f left (and_val v vs) ≡ plain_items (items_fitted depth left (and_val v vs))
items_plain f depth left v vs g h =
    ap (λ (s : Settling). and_behind s.through s.settled (λ w. settle_items f (left - weight w) vs)) g
    ∙ joined_cond (nat_le (weight v) left && nat_le (list_depth v) depth) (nat_le (weights vs) (left - weight v) && nat_le (deepest vs) depth) v vs (λ w. settle_items f (left - weight w) vs) h
    ∙ ap (λ b. plain_items (cond b (Some (and_val v vs)) None)) (sym (fits_more (weight v) (list_depth v) (weights vs) (deepest vs) left depth))

or_first : (p q : Bool) → (p || q) ≡ false → p ≡ false
or_first false q e = refl
or_first true q e = e

or_second : (p q : Bool) → (p || q) ≡ false → q ≡ false
or_second false q e = e
or_second true q e = absurd (cc)

leaf_plain : (m : Resolutions) (depth left : ℕ) (v : Val) → None ≡ promise_of v → None ≡ items_in v → settle_at m depth left v ≡ plain (fitted depth left v)
leaf_plain m depth left v e f = settle_own m depth left v e ∙ ap (settle_end (list_at m depth) left v) (sym f) ∙ ap plain (leaf depth left v (no_list v f))

-- a value without promises settles to itself where it is not too large, and nothing is walked
mutual
  pub settle_plain : (m : Resolutions) (depth left : ℕ) (v : Val) → promise_in v ≡ false → settle_at m depth left v ≡ plain (fitted depth left v)
  settle_plain m depth left (list vs) e = settle_own m depth left (list vs) refl ∙ list_plain m depth left vs (λ d l. settle_plains m d l vs e)
  settle_plain m depth left (promise p) e = absurd (cc)
  settle_plain m depth left null e = leaf_plain m depth left null refl refl
  settle_plain m depth left (bool b) e = leaf_plain m depth left (bool b) refl refl
  settle_plain m depth left (int z) e = leaf_plain m depth left (int z) refl refl
  settle_plain m depth left (text s) e = leaf_plain m depth left (text s) refl refl
  settle_plain m depth left (object o) e = leaf_plain m depth left (object o) refl refl
  settle_plain m depth left (ejector j) e = leaf_plain m depth left (ejector j) refl refl
  settle_plain m depth left (broken s) e = leaf_plain m depth left (broken s) refl refl

  settle_plains : (m : Resolutions) (depth left : ℕ) (vs : Vals) → promises_in vs ≡ false → settle_items (settle_at m depth) left vs ≡ plain_items (items_fitted depth left vs)
  settle_plains m depth left no_vals e = let z : (nat_le 0 left && nat_le 0 depth) ≡ true = grind (arith, nat_tests) in ap (λ b. plain_items (cond b (Some no_vals) None)) (sym z)
  settle_plains m depth left (and_val v vs) e =
      items_plain (settle_at m depth) depth left v vs (settle_plain m depth left v (or_first (promise_in v) (promises_in vs) e)) (settle_plains m depth (left - weight v) vs (or_second (promise_in v) (promises_in vs) e))

-- ---- a settled form keeps the limits

abbrev pub Within : ℕ → ℕ → Val → Type 0
Within depth left v = (weight v ≤ left) × (list_depth v ≤ depth)

abbrev pub ItemsWithin : ℕ → ℕ → Vals → Type 0
ItemsWithin depth left vs = (weights vs ≤ left) × (deepest vs ≤ depth)

pub fitted_within : (depth left : ℕ) (v w : Val) → fitted depth left v ≡ Some w → (v ≡ w) × Within depth left v
fitted_within depth left v w = go (nat_le (weight v) left) (nat_le (list_depth v) depth) refl refl
  where
    go : (b c : Bool) → nat_le (weight v) left ≡ b → nat_le (list_depth v) depth ≡ c → cond (b && c) (Some v) None ≡ Some w → (v ≡ w) × Within depth left v
    go true true e f h = (cc, (leb-true (weight v) left e, leb-true (list_depth v) depth f))
    go true false e f h = absurd (cc)
    go false c e f h = absurd (cc)

-- an item and those behind it
items_behind : (f : ℕ → Val → Settling) (depth left : ℕ) (v : Val) (vs ws : Vals) → ((l : ℕ) (u w : Val) → (f l u).settled ≡ Some w → Within depth l w) → ((l : ℕ) (us : Vals) → (settle_items f l vs).settled ≡ Some us → ItemsWithin depth l us)
    → (settle_items f left (and_val v vs)).settled ≡ Some ws → ItemsWithin depth left ws
items_behind f depth left v vs ws h k e = go (f left v).settled refl e
  where
    behind : (w : Val) (o : Option Vals) → Within depth left w → (settle_items f (left - weight w) vs).settled ≡ o → option_map (and_val w) o ≡ Some ws → ItemsWithin depth left ws
    behind w None a g i = absurd (cc)
    behind w (Some us) a g i =
        let q : and_val w us ≡ ws = cc in
        let j = k (left - weight w) us g in
        let P : Vals → Type 0 = λ xs. ItemsWithin depth left xs in
        subst P q (omega (arith, a.0, j.0), omega (arith, a.1, j.1))

    go : (o : Option Val) → (f left v).settled ≡ o → (and_behind (f left v).through o (λ w. settle_items f (left - weight w) vs)).settled ≡ Some ws → ItemsWithin depth left ws
    go None g i = absurd (cc)
    go (Some w) g i = behind w (settle_items f (left - weight w) vs).settled (h left v w g) refl i

items_within : (f : ℕ → Val → Settling) (depth : ℕ) → ((left : ℕ) (v w : Val) → (f left v).settled ≡ Some w → Within depth left w) → (left : ℕ) (vs ws : Vals) → (settle_items f left vs).settled ≡ Some ws → ItemsWithin depth left ws
items_within f depth h left no_vals ws e =
    let P : Vals → Type 0 = λ us. ItemsWithin depth left us in
    let q : no_vals ≡ ws = cc in
    subst P q (omega arith, omega arith)
items_within f depth h left (and_val v vs) ws e = items_behind f depth left v vs ws h (λ l us g. items_within f depth h l vs us g) e

end_within : (lists : ℕ → Vals → Settling) (depth left : ℕ) (u w : Val) (o : Option Vals) → ((us : Vals) → (lists left us).settled ≡ Some w → Within depth left w) → (settle_end lists left u o).settled ≡ Some w → Within depth left w
end_within lists depth left u w (Some us) h e = h us e
end_within lists depth left u w None h e =
    let k = fitted_within 0 left u w e in
    let P : Val → Type 0 = λ x. Within depth left x in
    subst P k.0 (k.1.0, omega (arith, k.1.1))

list_within : (f : ℕ → Val → Settling) (depth left : ℕ) (us : Vals) (w : Val) → ((l : ℕ) (v x : Val) → (f l v).settled ≡ Some x → Within depth l x) → (settle_list f left us).settled ≡ Some w → Within (suc depth) left w
list_within f depth zero us w h e = absurd (cc)
list_within f depth (suc left) us w h e = go (settle_items f left us).settled refl e
  where
    go : (o : Option Vals) → (settle_items f left us).settled ≡ o → option_map list o ≡ Some w → Within (suc depth) (suc left) w
    go None g i = absurd (cc)
    go (Some ws) g i =
        let k = items_within f depth h left us ws g in
        let q : list ws ≡ w = cc in
        let P : Val → Type 0 = λ x. Within (suc depth) (suc left) x in
        subst P q (omega (arith, k.0), omega (arith, k.1))

-- a settled form keeps the depth and the weight
pub settle_within : (m : Resolutions) (depth left : ℕ) (v w : Val) → (settle_at m depth left v).settled ≡ Some w → Within depth left w
unfolding settle_at
settle_within m zero left v w e = end_within no_lists zero left (followed m v) w (items_in (followed m v)) (λ us g. absurd (cc)) e
settle_within m (suc depth) left v w e =
    end_within (settle_list (settle_at m depth)) (suc depth) left (followed m v) w (items_in (followed m v)) (λ us g. list_within (settle_at m depth) depth left us w (λ l x y i. settle_within m depth l x y i) g) e
