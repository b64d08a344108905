-- What stands in settled forms, and what settles to itself.
use Rattle.std.proofs.Common.{◌≡◌, ℕ, zero, suc, ◌-◌, cond, List, [], ◌∷◌, Option, Some, None, option_map, ◌⊎◌, inl, inr, refl, sym, ap, ◌∙◌, subst, arith}
use Rattle.std.specs.Option.{unwrap_or}
use Rattle.std.specs.Cmp.Derive.{both_true}
use Rattle.std.proofs.lemmas.Bool.{le-leb}
use Rattle.ids.specs.declared.names.PromId.{PromId}
use Rattle.values.specs.Data.{Val, null, bool, int, text, list, object, ejector, promise, broken, Vals, no_vals, and_val}
use Rattle.values.specs.Limits.{weight, list_depth}
use Rattle.values.specs.Promises.{promise_of}
use Rattle.values.specs.Replies.{items_in}
use Rattle.refs.specs.Walks.{Resolutions, walk, most_walked, followed}
use Rattle.refs.specs.Leads.{Leads, at_value, at_open, leads_on}
use Rattle.refs.specs.Settling.{Settling, fitted, and_behind, settle_items, settle_list, settle_end, no_lists, settle_at, list_at, settling}
use Rattle.refs.specs.Laws.{IsOpen, AreOpen, SettledIsWithinLimits, SettledIsOpen, SettledSettlesToItself, ListOfItselfHasNone}
use Rattle.refs.proofs.Rules.{most-is, what_ends_is_led, found_all}
use Rattle.refs.proofs.Settled.{settle_at-is, settle_own, settle_within, fitted_within, Within, ItemsWithin}

-- ---- from a settled form to what was settled

-- the first item and those behind it
abbrev pub ItemsFrom : (ℕ → Val → Settling) → ℕ → Val → Vals → Vals → Type 0
ItemsFrom f left v vs ws = (w : Val) × (us : Vals) × ((f left v).settled ≡ Some w) × ((settle_items f (left - weight w) vs).settled ≡ Some us) × (ws ≡ and_val w us)

pub items_from : (f : ℕ → Val → Settling) (left : ℕ) (v : Val) (vs ws : Vals) → (settle_items f left (and_val v vs)).settled ≡ Some ws → ItemsFrom f left v vs ws
items_from f left v vs ws e = go (f left v).settled refl e
  where
    behind : (w : Val) (o : Option Vals) → (f left v).settled ≡ Some w → (settle_items f (left - weight w) vs).settled ≡ o → option_map (and_val w) o ≡ Some ws → ItemsFrom f left v vs ws
    behind w None g h i = absurd (cc)
    behind w (Some us) g h i = (w, us, g, h, cc)

    go : (o : Option Val) → (f left v).settled ≡ o → (and_behind (f left v).through o (λ w. settle_items f (left - weight w) vs)).settled ≡ Some ws → ItemsFrom f left v vs ws
    go None g i = absurd (cc)
    go (Some w) g i = behind w (settle_items f (left - weight w) vs).settled g refl i

-- a list's items
abbrev pub ListFrom : (ℕ → Val → Settling) → ℕ → Vals → Val → Type 0
ListFrom f left us w = (l : ℕ) × (ws : Vals) × (left ≡ suc l) × ((settle_items f l us).settled ≡ Some ws) × (w ≡ list ws)

pub list_from : (f : ℕ → Val → Settling) (left : ℕ) (us : Vals) (w : Val) → (settle_list f left us).settled ≡ Some w → ListFrom f left us w
list_from f zero us w e = absurd (cc)
list_from f (suc l) us w e = go (settle_items f l us).settled refl e
  where
    go : (o : Option Vals) → (settle_items f l us).settled ≡ o → option_map list o ≡ Some w → ListFrom f (suc l) us w
    go None g i = absurd (cc)
    go (Some ws) g i = (l, ws, refl, g, cc)

-- an end
abbrev EndFrom : (ℕ → Vals → Settling) → ℕ → Val → Val → Option Vals → Type 0
EndFrom lists left e w o = ((o ≡ None) × (e ≡ w)) ⊎ ((us : Vals) × (lists left us).settled ≡ Some w)

end_from : (lists : ℕ → Vals → Settling) (left : ℕ) (e w : Val) (o : Option Vals) → (settle_end lists left e o).settled ≡ Some w → EndFrom lists left e w o
end_from lists left e w None h = inl (refl, (fitted_within 0 left e w h).0)
end_from lists left e w (Some us) h = inr (us, h)

-- ---- promises in a settled form

-- an end that is a promise is unresolved
ends_open : {m : Resolutions} {v w : Val} {ps : List PromId} → Leads m v ps w → (p : PromId) → w ≡ promise p → m p ≡ None
ends_open (at_value v h) p e = let f : promise_of v ≡ Some p = ap promise_of e in absurd (cc)
ends_open {m = m} (at_open q h) p e = let f : q ≡ p = cc in sym (ap m f) ∙ h
ends_open (leads_on q u w ps h l) p e = ends_open l p e

followed_open : (m : Resolutions) (v : Val) (p : PromId) → followed m v ≡ promise p → IsOpen m (promise p)
followed_open m v p e = go (walk most_walked m [] v).end refl e
  where
    go : (o : Option Val) → (walk most_walked m [] v).end ≡ o → unwrap_or o v ≡ promise p → IsOpen m (promise p)
    go None h k = inr (ap (λ x. (walk most_walked m [] x).end) (sym k) ∙ h)
    go (Some u) h k = inl (ends_open (what_ends_is_led m v u h) p k)

end_open : (m : Resolutions) (v e : Val) → followed m v ≡ e → items_in e ≡ None → IsOpen m e
end_open m v (promise p) h k = followed_open m v p h
end_open m v (list vs) h k = absurd (cc)
end_open m v _ h k = tt

items_open : (m : Resolutions) (f : ℕ → Val → Settling) → ((l : ℕ) (v w : Val) → (f l v).settled ≡ Some w → IsOpen m w) → (left : ℕ) (vs ws : Vals) → (settle_items f left vs).settled ≡ Some ws → AreOpen m ws
items_open m f h left no_vals ws e = let q : no_vals ≡ ws = cc in subst (AreOpen m) q tt
items_open m f h left (and_val v vs) ws e =
    let i = items_from f left v vs ws e in
    subst (AreOpen m) (sym i.4) (h left v i.0 i.2, items_open m f h (left - weight i.0) vs i.1 i.3)

open_from : (m : Resolutions) (lists : ℕ → Vals → Settling) (left : ℕ) (v w : Val) → ((us : Vals) → (lists left us).settled ≡ Some w → IsOpen m w) → (settle_end lists left (followed m v) (items_in (followed m v))).settled ≡ Some w → IsOpen m w
open_from m lists left v w h e = go (end_from lists left (followed m v) w (items_in (followed m v)) e)
  where
    go : EndFrom lists left (followed m v) w (items_in (followed m v)) → IsOpen m w
    go (inl i) = end_open m v w i.1 (ap items_in (sym i.1) ∙ i.0)
    go (inr i) = h i.0 i.1

settled_open : (m : Resolutions) (depth left : ℕ) (v w : Val) → (settle_at m depth left v).settled ≡ Some w → IsOpen m w
unfolding settle_at
settled_open m zero left v w e = open_from m no_lists left v w (λ us g. absurd (cc)) e
settled_open m (suc depth) left v w e =
    open_from m (settle_list (settle_at m depth)) left v w
    (λ us g. let i = list_from (settle_at m depth) left us w g in
    subst (IsOpen m) (sym i.4) (items_open m (settle_at m depth) (λ l x y h. settled_open m depth l x y h) i.0 us i.1 i.3))
    e

-- ---- what settles to itself

pub fits : (depth left : ℕ) (v : Val) → Within depth left v → fitted depth left v ≡ Some v
fits depth left v h = ap (λ b. cond b (Some v) None) (both_true (le-leb (weight v) left h.0) (le-leb (list_depth v) depth h.1))

open_itself : (m : Resolutions) (p : PromId) → IsOpen m (promise p) → followed m (promise p) ≡ promise p
open_itself m p (inl h) = ap (λ x. unwrap_or x.end (promise p)) (found_all most_walked m (promise p) (promise p) (p ∷ []) (at_open p h) (omega (arith, most-is)))
open_itself m p (inr h) = ap (λ o. unwrap_or o (promise p)) h

leaf_itself : (m : Resolutions) (depth left : ℕ) (v : Val) → None ≡ promise_of v → None ≡ items_in v → list_depth v ≡ 0 → Within depth left v → (settle_at m depth left v).settled ≡ Some v
leaf_itself m depth left v e f g h =
    ap (λ (s : Settling). s.settled) (settle_own m depth left v e ∙ ap (settle_end (list_at m depth) left v) (sym f)) ∙ fits 0 left v (h.0, omega (arith, g))

promise_itself : (m : Resolutions) (depth left : ℕ) (p : PromId) → IsOpen m (promise p) → Within depth left (promise p) → (settle_at m depth left (promise p)).settled ≡ Some (promise p)
promise_itself m depth left p i h =
    ap (λ (s : Settling). s.settled) (settle_at-is m depth left (promise p))
    ∙ ap (λ e. (settle_end (list_at m depth) left e (items_in e)).settled) (open_itself m p i)
    ∙ fits 0 left (promise p) (h.0, omega arith)

list_itself : (m : Resolutions) (depth left : ℕ) (vs : Vals) → Within depth left (list vs) → ((d l : ℕ) → ItemsWithin d l vs → (settle_items (settle_at m d) l vs).settled ≡ Some vs) → (settle_at m depth left (list vs)).settled ≡ Some (list vs)
list_itself m zero left vs h k = absurd (omega (arith, h.1))
list_itself m (suc depth) zero vs h k = absurd (omega (arith, h.0))
list_itself m (suc depth) (suc left) vs h k = ap (λ (s : Settling). s.settled) (settle_own m (suc depth) (suc left) (list vs) refl) ∙ ap (option_map list) (k depth left (omega (arith, h.0), omega (arith, h.1)))

behind_itself : (f : ℕ → Val → Settling) (left : ℕ) (v : Val) (vs : Vals) → (f left v).settled ≡ Some v → (settle_items f (left - weight v) vs).settled ≡ Some vs → (settle_items f left (and_val v vs)).settled ≡ Some (and_val v vs)
behind_itself f left v vs g h = ap (λ o. (and_behind (f left v).through o (λ w. settle_items f (left - weight w) vs)).settled) g ∙ ap (option_map (and_val v)) h

mutual
  itself : (m : Resolutions) (depth left : ℕ) (v : Val) → IsOpen m v → Within depth left v → (settle_at m depth left v).settled ≡ Some v
  itself m depth left (list vs) i h = list_itself m depth left vs h (λ d l k. items_itself m d l vs i k)
  itself m depth left (promise p) i h = promise_itself m depth left p i h
  itself m depth left null i h = leaf_itself m depth left null refl refl refl h
  itself m depth left (bool b) i h = leaf_itself m depth left (bool b) refl refl refl h
  itself m depth left (int z) i h = leaf_itself m depth left (int z) refl refl refl h
  itself m depth left (text s) i h = leaf_itself m depth left (text s) refl refl refl h
  itself m depth left (object o) i h = leaf_itself m depth left (object o) refl refl refl h
  itself m depth left (ejector j) i h = leaf_itself m depth left (ejector j) refl refl refl h
  itself m depth left (broken s) i h = leaf_itself m depth left (broken s) refl refl refl h

  items_itself : (m : Resolutions) (depth left : ℕ) (vs : Vals) → AreOpen m vs → ItemsWithin depth left vs → (settle_items (settle_at m depth) left vs).settled ≡ Some vs
  items_itself m depth left no_vals i h = refl
  items_itself m depth left (and_val v vs) i h =
      behind_itself (settle_at m depth) left v vs (itself m depth left v i.0 (omega (arith, h.0), omega (arith, h.1))) (items_itself m depth (left - weight v) vs i.1 (omega (arith, h.0), omega (arith, h.1)))

-- ---- the laws

pub within_limits_then : SettledIsWithinLimits
unfolding settling
within_limits_then m v w e = let k = settle_within m 64 65536 v w e in both_true (le-leb (weight w) 65536 k.0) (le-leb (list_depth w) 64 k.1)

pub open_then : SettledIsOpen
unfolding settling
open_then m v w e = settled_open m 64 65536 v w e

pub settles_to_itself : SettledSettlesToItself
unfolding settling
settles_to_itself m v w e = itself m 64 65536 w (settled_open m 64 65536 v w e) (settle_within m 64 65536 v w e)

-- ---- a list of itself

unfolds : (m : Resolutions) (p : PromId) → m p ≡ Some (list (and_val (promise p) no_vals)) → followed m (promise p) ≡ list (and_val (promise p) no_vals)
unfolds m p h =
    ap (λ x. unwrap_or x.end (promise p))
    (found_all most_walked m (promise p) (list (and_val (promise p) no_vals)) (p ∷ []) (leads_on p (list (and_val (promise p) no_vals)) (list (and_val (promise p) no_vals)) [] h (at_value (list (and_val (promise p) no_vals)) refl)) (omega (arith, most-is)))

none_in_it : (m : Resolutions) (p : PromId) (f : ℕ → Val → Settling) → ((l : ℕ) → (f l (promise p)).settled ≡ None) → (left : ℕ) → (settle_list f left (and_val (promise p) no_vals)).settled ≡ None
none_in_it m p f h zero = refl
none_in_it m p f h (suc left) = ap (λ o. option_map list (and_behind (f left (promise p)).through o (λ w. settle_items f (left - weight w) no_vals)).settled) (h left)

none_settled : (m : Resolutions) (p : PromId) → m p ≡ Some (list (and_val (promise p) no_vals)) → (depth left : ℕ) → (settle_at m depth left (promise p)).settled ≡ None
unfolding settle_at
none_settled m p h zero left = ap (λ e. (settle_end no_lists left e (items_in e)).settled) (unfolds m p h)
none_settled m p h (suc depth) left = ap (λ e. (settle_end (settle_list (settle_at m depth)) left e (items_in e)).settled) (unfolds m p h) ∙ none_in_it m p (settle_at m depth) (λ l. none_settled m p h depth l) left

pub list_of_itself_has_none : ListOfItselfHasNone
unfolding settling
list_of_itself_has_none m p h = none_settled m p h 64 65536
