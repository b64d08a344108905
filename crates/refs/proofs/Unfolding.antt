-- Settled forms by rules and as a function.
use Rattle.std.proofs.Common.{◌≡◌, ℕ, zero, suc, ◌+◌, ◌-◌, ◌<◌, ◌^◌, nat_le, true, List, [], ◌++◌, length, length-append, append-nil, Option, Some, None, option_map, ◌⊎◌, inl, inr, refl, sym, ap, ◌∙◌, subst, arith}
use Rattle.std.specs.Option.{unwrap_or}
use Rattle.std.proofs.lemmas.Bool.{leb-true, and_parts}
use Rattle.ids.specs.declared.names.PromId.{PromId}
use Rattle.values.specs.Data.{Val, list, Vals, no_vals, and_val}
use Rattle.values.specs.Limits.{weight, list_depth, within_limits}
use Rattle.values.specs.Replies.{items_in}
use Rattle.refs.specs.Walks.{Resolutions, Walk, walk, most_walked, walked, followed}
use Rattle.refs.specs.Leads.{Leads, Returns, comes_back, goes_on, Circles}
use Rattle.refs.specs.Settling.{Settling, ItemsSettling, and_behind, settle_items, settle_list, settle_end, no_lists, settle_at, list_at, settling}
use Rattle.refs.specs.Unfolds.{Unfolds, to_end, to_itself, to_list, EachUnfolds, no_item, and_item}
use Rattle.refs.specs.Laws.{SettlesAsItUnfolds, OneUnfolding}
use Rattle.refs.proofs.Rules.{what_ends_is_led, what_has_no_end_circles, what_is_led_ends, what_circles_has_no_end, one_end, no_end_in_a_ring, ring_found}
use Rattle.refs.proofs.Settled.{settle_at-is, no_list, list_is, fitted_within, Within, ItemsWithin}
use Rattle.refs.proofs.Open.{items_from, fits, within_limits_then}

-- ---- from the function to the rules

-- what leads into a ring is a promise, and no list
ring_is_no_list : {m : Resolutions} {seen ps : List PromId} {v : Val} → Returns m seen v ps → None ≡ items_in v
ring_is_no_list (comes_back seen p h) = refl
ring_is_no_list (goes_on seen p v ps h k r) = refl

-- where a walk stands at last
abbrev Stands : Resolutions → Val → Type 0
Stands m v = Leads m v (walked m v) (followed m v) ⊎ (Circles m v (walked m v) × (followed m v ≡ v))

stands : (m : Resolutions) (v : Val) → length (walked m v) < 2 ^ 64 → Stands m v
stands m v l = go (walk most_walked m [] v).end refl
  where
    go : (o : Option Val) → (walk most_walked m [] v).end ≡ o → Stands m v
    go None e = inr (what_has_no_end_circles m v e l, ap (λ o. unwrap_or o v) e)
    go (Some u) e = inl (subst (Leads m v (walked m v)) (sym (ap (λ o. unwrap_or o v) e)) (what_ends_is_led m v u e))

-- an end that is no list, and one that is
unfolds_end : (m : Resolutions) (v w : Val) → Stands m v → items_in (followed m v) ≡ None → followed m v ≡ w → Unfolds m v (walked m v) w
unfolds_end m v w (inl l) h e = subst (Unfolds m v (walked m v)) e (to_end v (followed m v) (walked m v) l h)
unfolds_end m v w (inr c) h e = subst (Unfolds m v (walked m v)) (sym c.1 ∙ e) (to_itself v (walked m v) c.0)

unfolds_list : (m : Resolutions) (v : Val) (us ws : Vals) (qs : List PromId) → Stands m v → items_in (followed m v) ≡ Some us → EachUnfolds m us qs ws → Unfolds m v (walked m v ++ qs) (list ws)
unfolds_list m v us ws qs (inl l) h k = to_list v us ws (walked m v) qs (subst (Leads m v (walked m v)) (list_is (followed m v) us h) l) k
unfolds_list m v us ws qs (inr c) h k = let e : None ≡ Some us = ring_is_no_list c.0 ∙ ap items_in (sym c.1) ∙ h in absurd (cc)

-- what settles through few promises, unfolds
abbrev Sound : Resolutions → Val → Settling → Type 0
Sound m v s = (w : Val) → s.settled ≡ Some w → length s.through < 2 ^ 64 → Unfolds m v s.through w

abbrev ListSound : Resolutions → Vals → Settling → Type 0
ListSound m us s = (w : Val) → s.settled ≡ Some w → length s.through < 2 ^ 64 → (ws : Vals) × (w ≡ list ws) × EachUnfolds m us s.through ws

items_sound : (m : Resolutions) (f : ℕ → Val → Settling) → ((l : ℕ) (v : Val) → Sound m v (f l v)) → (left : ℕ) (vs ws : Vals) → (settle_items f left vs).settled ≡ Some ws → length (settle_items f left vs).through < 2 ^ 64 → EachUnfolds m vs (settle_items f left vs).through ws
items_sound m f h left no_vals ws e l = let q : no_vals ≡ ws = cc in subst (EachUnfolds m no_vals []) q no_item
items_sound m f h left (and_val v vs) ws e l =
    let i = items_from f left v vs ws e in
    let rest = settle_items f (left - weight i.0) vs in
    let t : (settle_items f left (and_val v vs)).through ≡ (f left v).through ++ rest.through = ap (λ o. (and_behind (f left v).through o (λ w. settle_items f (left - weight w) vs)).through) i.2 in
    let n = ap length t ∙ length-append (f left v).through rest.through in
    let u = and_item v i.0 vs i.1 (f left v).through rest.through (h left v i.0 i.2 (omega (arith, l, n))) (items_sound m f h (left - weight i.0) vs i.1 i.3 (omega (arith, l, n))) in
    subst (λ ps. EachUnfolds m (and_val v vs) ps ws) (sym t) (subst (EachUnfolds m (and_val v vs) ((f left v).through ++ rest.through)) (sym i.4) u)

list_sound : (m : Resolutions) (f : ℕ → Val → Settling) → ((l : ℕ) (v : Val) → Sound m v (f l v)) → (left : ℕ) (us : Vals) → ListSound m us (settle_list f left us)
list_sound m f h zero us w e l = absurd (cc)
list_sound m f h (suc left) us w e l = go (settle_items f left us).settled refl e
  where
    go : (o : Option Vals) → (settle_items f left us).settled ≡ o → option_map list o ≡ Some w → (ws : Vals) × (w ≡ list ws) × EachUnfolds m us (settle_items f left us).through ws
    go None g i = absurd (cc)
    go (Some ws) g i = (ws, cc, items_sound m f h left us ws g l)

walk_sound : (m : Resolutions) (lists : ℕ → Vals → Settling) → ((l : ℕ) (us : Vals) → ListSound m us (lists l us)) → (left : ℕ) (v : Val) (o : Option Vals) → items_in (followed m v) ≡ o
    → Sound m v (record { through = walked m v ++ (settle_end lists left (followed m v) o).through; settled = (settle_end lists left (followed m v) o).settled })
walk_sound m lists h left v None g w e l =
    let n = length-append (walked m v) [] in
    subst (λ ps. Unfolds m v ps w) (sym (append-nil (walked m v))) (unfolds_end m v w (stands m v (omega (arith, l, n))) g (fitted_within 0 left (followed m v) w e).0)
walk_sound m lists h left v (Some us) g w e l =
    let n = length-append (walked m v) (lists left us).through in
    let k = h left us w e (omega (arith, l, n)) in
    subst (Unfolds m v (walked m v ++ (lists left us).through)) (sym k.1) (unfolds_list m v us k.0 (lists left us).through (stands m v (omega (arith, l, n))) g k.2)

at_sound : (m : Resolutions) (depth left : ℕ) (v : Val) → Sound m v (settle_at m depth left v)
unfolding settle_at
at_sound m zero left v = walk_sound m no_lists (λ l us w e k. absurd (cc)) left v (items_in (followed m v)) refl
at_sound m (suc depth) left v = walk_sound m (settle_list (settle_at m depth)) (λ l us. list_sound m (settle_at m depth) (λ d u. at_sound m depth d u) l us) left v (items_in (followed m v)) refl

-- ---- from the rules to the function

abbrev settled_as : List PromId → Val → Settling
settled_as ps w = record { through = ps; settled = Some w }

-- a value, by where its walk stands and what is settled there
by_walk : (m : Resolutions) (depth left : ℕ) (v e : Val) (o : Option Vals) (ps : List PromId) (s : Settling) → walked m v ≡ ps → followed m v ≡ e → items_in e ≡ o → settle_end (list_at m depth) left e o ≡ s → settle_at m depth left v ≡ record { through = ps ++ s.through; settled = s.settled }
by_walk m depth left v e o ps s f g h k =
    let P : List PromId → Settling → Settling = λ qs t. record { through = qs ++ t.through; settled = t.settled } in
    settle_at-is m depth left v
    ∙ ap (λ qs. P qs (settle_end (list_at m depth) left (followed m v) (items_in (followed m v)))) f
    ∙ ap (λ u. P ps (settle_end (list_at m depth) left u (items_in u))) g
    ∙ ap (λ p. P ps (settle_end (list_at m depth) left e p)) h
    ∙ ap (P ps) k

end_settles : (m : Resolutions) (depth left : ℕ) (v w : Val) (ps : List PromId) → walked m v ≡ ps → followed m v ≡ w → items_in w ≡ None → Within depth left w → settle_at m depth left v ≡ settled_as ps w
end_settles m depth left v w ps f g h i =
    by_walk m depth left v w None ps (settled_as [] w) f g h (ap (λ (o : Option Val). record { through = []; settled = o }) (fits 0 left w (i.0, omega (arith, no_list w (sym h)))))
    ∙ ap (λ qs. settled_as qs w) (append-nil ps)

list_settles : (m : Resolutions) (depth left : ℕ) (us ws : Vals) (qs : List PromId) → Within depth left (list ws) → ((d l : ℕ) → ItemsWithin d l ws → settle_items (settle_at m d) l us ≡ record { through = qs; settled = Some ws }) → list_at m depth left us ≡ settled_as qs (list ws)
list_settles m zero left us ws qs i h = absurd (omega (arith, i.1))
list_settles m (suc depth) zero us ws qs i h = absurd (omega (arith, i.0))
list_settles m (suc depth) (suc left) us ws qs i h = ap (λ (s : ItemsSettling). record { through = s.through; settled = option_map list s.settled }) (h depth left (omega (arith, i.0), omega (arith, i.1)))

items_settle : (f : ℕ → Val → Settling) (left : ℕ) (v w : Val) (vs ws : Vals) (ps qs : List PromId) → f left v ≡ settled_as ps w → settle_items f (left - weight w) vs ≡ record { through = qs; settled = Some ws } → settle_items f left (and_val v vs) ≡ record { through = ps ++ qs; settled = Some (and_val w ws) }
items_settle f left v w vs ws ps qs g h =
    ap (λ (s : Settling). and_behind s.through s.settled (λ x. settle_items f (left - weight x) vs)) g
    ∙ ap (λ (s : ItemsSettling). record { through = ps ++ s.through; settled = option_map (and_val w) s.settled }) h

mutual
  settles : {m : Resolutions} {v w : Val} {ps : List PromId} → Unfolds m v ps w → length ps < 2 ^ 64 → (depth left : ℕ) → Within depth left w → settle_at m depth left v ≡ settled_as ps w
  settles {m = m} (to_end v w ps l h) k depth left i =
      let f = what_is_led_ends m v w ps l k in
      end_settles m depth left v w ps f.0 (ap (λ o. unwrap_or o v) f.1) h i
  settles {m = m} (to_itself v ps c) k depth left i =
      let f = what_circles_has_no_end m v ps c k in
      end_settles m depth left v v ps f.0 (ap (λ o. unwrap_or o v) f.1) (sym (ring_is_no_list c)) i
  settles {m = m} (to_list v us ws ps qs l e) k depth left i =
      let n = length-append ps qs in
      let f = what_is_led_ends m v (list us) ps l (omega (arith, k, n)) in
      by_walk m depth left v (list us) (Some us) ps (settled_as qs (list ws)) f.0 (ap (λ o. unwrap_or o v) f.1) refl (list_settles m depth left us ws qs i (λ d j x. each_settles e (omega (arith, k, n)) d j x))

  each_settles : {m : Resolutions} {vs ws : Vals} {ps : List PromId} → EachUnfolds m vs ps ws → length ps < 2 ^ 64 → (depth left : ℕ) → ItemsWithin depth left ws → settle_items (settle_at m depth) left vs ≡ record { through = ps; settled = Some ws }
  each_settles no_item k depth left i = refl
  each_settles {m = m} (and_item v w vs ws ps qs u e) k depth left i =
      let n = length-append ps qs in
      items_settle (settle_at m depth) left v w vs ws ps qs (settles u (omega (arith, k, n)) depth left (omega (arith, i.0), omega (arith, i.1))) (each_settles e (omega (arith, k, n)) depth (left - weight w) (omega (arith, i.0), omega (arith, i.1)))

limits_within : (w : Val) → within_limits w ≡ true → Within 64 65536 w
limits_within w e = let b = and_parts (nat_le (weight w) 65536) (nat_le (list_depth w) 64) e in (leb-true (weight w) 65536 b.0, leb-true (list_depth w) 64 b.1)

pub settles_as_it_unfolds : SettlesAsItUnfolds
unfolding settling
settles_as_it_unfolds m v w ps l = (there, back)
  where
    there : ((settle_at m 64 65536 v).through ≡ ps) × ((settle_at m 64 65536 v).settled ≡ Some w) → Unfolds m v ps w × (within_limits w ≡ true)
    there s = (subst (λ qs. Unfolds m v qs w) s.0 (at_sound m 64 65536 v w s.1 (omega (arith, l, ap length s.0))), within_limits_then m v w s.1)

    back : Unfolds m v ps w × (within_limits w ≡ true) → ((settle_at m 64 65536 v).through ≡ ps) × ((settle_at m 64 65536 v).settled ≡ Some w)
    back u =
        let s = settles u.0 l 64 65536 (limits_within w u.1) in
        (ap (λ (x : Settling). x.through) s, ap (λ (x : Settling). x.settled) s)

-- ---- at most one unfolding

-- the rules lead into at most one ring
one_ring : (m : Resolutions) (v : Val) (ps qs : List PromId) → Circles m v ps → Circles m v qs → ps ≡ qs
one_ring m v ps qs c d =
    let e : record { through = ps; end = None } ≡ walk (length ps + length qs) m [] v = sym (ring_found c (length ps + length qs) (omega arith)) in
    ap (λ (x : Walk). x.through) (e ∙ ring_found d (length ps + length qs) (omega arith))

-- where the end is a list
record ListUnfolds (m : Resolutions) (v : Val) (all : List PromId) (x : Val) : Type 0 where
  us : Vals
  ws : Vals
  ps : List PromId
  qs : List PromId
  leads : Leads m v ps (list us)
  each : EachUnfolds m us qs ws
  through : ps ++ qs ≡ all
  is : list ws ≡ x

data Unfolded (m : Resolutions) (v : Val) (ps : List PromId) (w : Val) : Type 0 where
  at_end : Leads m v ps w → items_in w ≡ None → Unfolded m v ps w
  at_ring : Circles m v ps → v ≡ w → Unfolded m v ps w
  at_list : ListUnfolds m v ps w → Unfolded m v ps w

unfolded : {m : Resolutions} {v w : Val} {ps : List PromId} → Unfolds m v ps w → Unfolded m v ps w
unfolded (to_end v w ps l h) = at_end l h
unfolded (to_itself v ps c) = at_ring c refl
unfolded (to_list v us ws ps qs l e) = at_list (record { us = us; ws = ws; ps = ps; qs = qs; leads = l; each = e; through = refl; is = refl })

abbrev Same : List PromId → Val → List PromId → Val → Type 0
Same ps w qs x = (ps ≡ qs) × (w ≡ x)

end_once : (m : Resolutions) (v w x : Val) (ps qs : List PromId) → Leads m v ps w → items_in w ≡ None → Unfolded m v qs x → Same ps w qs x
end_once m v w x ps qs l h (at_end k g) = one_end m v w x ps qs l k
end_once m v w x ps qs l h (at_ring c g) = absurd (no_end_in_a_ring m v w ps qs l c)
end_once m v w x ps qs l h (at_list r) = let e : Some r.us ≡ None = ap items_in (sym (one_end m v w (list r.us) ps r.ps l r.leads).1) ∙ h in absurd (cc)

ring_once : (m : Resolutions) (v x : Val) (ps qs : List PromId) → Circles m v ps → Unfolded m v qs x → Same ps v qs x
ring_once m v x ps qs c (at_end k g) = absurd (no_end_in_a_ring m v x qs ps k c)
ring_once m v x ps qs c (at_ring d g) = (one_ring m v ps qs c d, g)
ring_once m v x ps qs c (at_list r) = absurd (no_end_in_a_ring m v (list r.us) r.ps ps r.leads c)

-- items that unfold in one way
abbrev EachOnce : Resolutions → Vals → List PromId → Vals → Type 0
EachOnce m vs ps ws = (qs : List PromId) (xs : Vals) → EachUnfolds m vs qs xs → (ps ≡ qs) × (ws ≡ xs)

list_once : (m : Resolutions) (v x : Val) (us ws : Vals) (ps qs all : List PromId) → Leads m v ps (list us) → EachOnce m us qs ws → Unfolded m v all x → Same (ps ++ qs) (list ws) all x
list_once m v x us ws ps qs all l h (at_end k g) = let e : Some us ≡ None = ap items_in (one_end m v (list us) x ps all l k).1 ∙ g in absurd (cc)
list_once m v x us ws ps qs all l h (at_ring c g) = absurd (no_end_in_a_ring m v (list us) ps all l c)
list_once m v x us ws ps qs all l h (at_list r) =
    let o = one_end m v (list us) (list r.us) ps r.ps l r.leads in
    let e : r.us ≡ us = (let f : list us ≡ list r.us = o.1 in cc) in
    let i = h r.qs r.ws (subst (λ vs. EachUnfolds m vs r.qs r.ws) e r.each) in
    (ap (λ xs. xs ++ qs) o.0 ∙ ap (λ xs. r.ps ++ xs) i.0 ∙ r.through, ap list i.1 ∙ r.is)

-- what unfolds from no item, and from an item and others
none_from : {m : Resolutions} {vs ws : Vals} {ps : List PromId} → EachUnfolds m vs ps ws → vs ≡ no_vals → (ps ≡ []) × (ws ≡ no_vals)
none_from no_item e = (refl, refl)
none_from (and_item v w vs ws ps qs u k) e = absurd (cc)

record ItemUnfolds (m : Resolutions) (v : Val) (vs : Vals) (all : List PromId) (xs : Vals) : Type 0 where
  w : Val
  ws : Vals
  ps : List PromId
  qs : List PromId
  first : Unfolds m v ps w
  behind : EachUnfolds m vs qs ws
  through : ps ++ qs ≡ all
  are : and_val w ws ≡ xs

item_from : {m : Resolutions} {us xs : Vals} {all : List PromId} → EachUnfolds m us all xs → (v : Val) (vs : Vals) → us ≡ and_val v vs → ItemUnfolds m v vs all xs
item_from no_item v vs e = absurd (cc)
item_from {m = m} (and_item u w us ws ps qs h k) v vs e =
    let f : u ≡ v = cc in
    let g : us ≡ vs = cc in
    record { w = w; ws = ws; ps = ps; qs = qs; first = subst (λ x. Unfolds m x ps w) f h; behind = subst (λ xs. EachUnfolds m xs qs ws) g k; through = refl; are = refl }

item_once : (m : Resolutions) (v w : Val) (vs ws xs : Vals) (ps qs all : List PromId) → ((rs : List PromId) (x : Val) → Unfolds m v rs x → Same ps w rs x) → EachOnce m vs qs ws → ItemUnfolds m v vs all xs → (ps ++ qs ≡ all) × (and_val w ws ≡ xs)
item_once m v w vs ws xs ps qs all h k r =
    let i = h r.ps r.w r.first in
    let j = k r.qs r.ws r.behind in
    (ap (λ rs. rs ++ qs) i.0 ∙ ap (λ rs. r.ps ++ rs) j.0 ∙ r.through, ap (λ x. and_val x ws) i.1 ∙ ap (and_val r.w) j.1 ∙ r.are)

mutual
  once : {m : Resolutions} {v w : Val} {ps : List PromId} → Unfolds m v ps w → (qs : List PromId) (x : Val) → Unfolds m v qs x → Same ps w qs x
  once {m = m} (to_end v w ps l h) qs x u = end_once m v w x ps qs l h (unfolded u)
  once {m = m} (to_itself v ps c) qs x u = ring_once m v x ps qs c (unfolded u)
  once {m = m} (to_list v us ws ps rs l e) qs x u = list_once m v x us ws ps rs qs l (λ ts xs k. each_once e ts xs k) (unfolded u)

  each_once : {m : Resolutions} {vs ws : Vals} {ps : List PromId} → EachUnfolds m vs ps ws → EachOnce m vs ps ws
  each_once no_item qs xs k = let f = none_from k refl in (sym f.0, sym f.1)
  each_once {m = m} (and_item v w vs ws ps rs u e) qs xs k = item_once m v w vs ws xs ps rs qs (λ ts x j. once u ts x j) (λ ts ys j. each_once e ts ys j) (item_from k v vs refl)

pub one_unfolding : OneUnfolding
one_unfolding m v w x ps qs u k = once u qs x k
