-- Sets of pairs, ordered by group and then by member: the members of one group, and the first of them.
use Rattle.std.proofs.Common.{◌≡◌, Bool, true, false, ◌&&◌, ◌||◌, cond, List, [], ◌∷◌, refl, sym, ap, ap₂, ◌∙◌}
use Rattle.std.specs.List.{list_any, AllByRecursion, filter}
use Rattle.std.specs.List.Sorted.{IsStrictlySortedBy}
use Rattle.std.specs.Cmp.{IsTotalOrder}
use Rattle.std.specs.Ordering.{is_eq, is_gt, is_le, ordering_then, ordering_reverse}
use Rattle.std.specs.declared.cmp.Ordering.{Ordering}
use Rattle.std.specs.declared.cmp.Ordering.TheVariants.{Less, Equal, Greater}
use Rattle.std.specs.declared.ops.Bound.TheVariants.{Included, Unbounded}
use Rattle.std.specs.BTreeSet.{BTreeSet, contains, keys_between, IsOrdered, IsKeyRangeOf}
use Rattle.std.proofs.lemmas.Bool.{and_parts, false_from_ne_true, false≢true}
use Rattle.std.proofs.lemmas.Map.Lookups.{CmpEqualImpliesEq}
use Rattle.std.proofs.lemmas.Map.Views.{any-filter_same}
use Rattle.std.proofs.lemmas.Cmp.{on_total, then_total, tied_itself}
use Rattle.std.proofs.lemmas.Map.Keys.{sorted_head, sorted_tail}
use Rattle.std.specs.BTreeMap.Range.{range_contains}
use Rattle.std.proofs.lemmas.List.Kept.{IsStrictlySortedBy-filter}
use Rattle.std.proofs.lemmas.List.Elements.{recursion_from_All, All-weaker, filter_passes}
use Rattle.ids.proofs.Keys.{equal}
use Rattle.book_agenda.proofs.Orders.{turned, then_both}

-- between a group and itself there is no other one
pub squeezed_between : {G : Type 0} {R : G → G → Ordering} → IsTotalOrder R → CmpEqualImpliesEq R → (g h : G) (x y : Ordering) → is_gt (ordering_then (R g h) x) ≡ false → is_gt (ordering_then (R h g) y) ≡ false → g ≡ h
squeezed_between {R = R} total exact g h x y below above = cases (R g h) refl below (ap (λ o. is_gt (ordering_then o y)) (sym (total.antisymm h g)) ∙ above)
  where
    cases : (o : Ordering) → R g h ≡ o → is_gt (ordering_then o x) ≡ false → is_gt (ordering_then (ordering_reverse o) y) ≡ false → g ≡ h
    cases Less e b a = absurd (false≢true (sym a))
    cases Equal e b a = exact g h e
    cases Greater e b a = absurd (false≢true (sym b))

module _ {T G V : Type 0} (group : T → G) (member : T → V) (gc : G → G → Ordering) (vc : V → V → Ordering) (same : G → G → Bool) (least : V) where
  -- how a group with a member is compared
  abbrev pub against : G → V → T → Ordering
  against g v t = ordering_then (gc g (group t)) (vc v (member t))

  abbrev pub pairs_cmp : T → T → Ordering
  pairs_cmp a b = against (group a) (member a) b

  -- the members of a group, up to another group
  abbrev pub members_at : G → List T → List V
  members_at g [] = []
  members_at g (t ∷ ts) = cond (same (group t) g) (member t ∷ members_at g ts) []

  pub at_same : (g : G) (t : T) (ts : List T) → same (group t) g ≡ true → members_at g (t ∷ ts) ≡ member t ∷ members_at g ts
  at_same g t ts h = ap (λ b. cond b (member t ∷ members_at g ts) []) h

  pub at_other : (g : G) (t : T) (ts : List T) → same (group t) g ≡ false → members_at g (t ∷ ts) ≡ []
  at_other g t ts h = ap (λ b. cond b (member t ∷ members_at g ts) []) h

  -- from the group's least member on
  abbrev pub FromLeast : G → List T → Type 0
  FromLeast g ts = AllByRecursion (λ t. is_gt (against g least t) ≡ false) ts

  module _ (gt : IsTotalOrder gc) (vt : IsTotalOrder vc) (zero_first : (v : V) → is_gt (vc least v) ≡ false) (agree : (a b : G) → same a b ≡ is_eq (gc a b)) where
    pairs_total : IsTotalOrder pairs_cmp
    pairs_total = then_total (on_total group gt) (on_total member vt)

    -- where the first comes after what is sought, and each after the first, it is not there
    none_after : (g : G) (v : V) (t : T) (ts : List T) → against g v t ≡ Less → AllByRecursion (λ u. pairs_cmp t u ≡ Less) ts → list_any (λ u. is_eq (against g v u)) ts ≡ false
    none_after g v t [] h all = refl
    none_after g v t (u ∷ us) h all = ap₂ (λ a b. is_eq a || b) (both_less (gc g (group t)) (gc (group t) (group u)) refl refl h all.0) (none_after g v t us h all.1)
      where
        both_less : (a b : Ordering) → gc g (group t) ≡ a → gc (group t) (group u) ≡ b → ordering_then a (vc v (member t)) ≡ Less → ordering_then b (vc (member t) (member u)) ≡ Less → against g v u ≡ Less
        both_less Less Less e f x y = ap (λ o. ordering_then o (vc v (member u))) (gt.trans g (group t) (group u) e f)
        both_less Less Equal e f x y = ap (λ o. ordering_then o (vc v (member u))) (less_along g (group t) (group u) e f)
          where
            less_along : (a b c : G) → gc a b ≡ Less → gc b c ≡ Equal → gc a c ≡ Less
            less_along a b c p q = ap (λ o. o) (gt.antisymm a c) ∙ ap ordering_reverse (sym (gt.congr b c a q)) ∙ sym (gt.antisymm a b) ∙ p
        both_less Equal Less e f x y = ap (λ o. ordering_then o (vc v (member u))) (gt.congr g (group t) (group u) e ∙ f)
        both_less Equal Equal e f x y = ap (λ o. ordering_then o (vc v (member u))) (gt.congr g (group t) (group u) e ∙ f) ∙ vt.trans v (member t) (member u) x y
        both_less Greater b e f x y = cc
        both_less Less Greater e f x y = cc
        both_less Equal Greater e f x y = cc

    -- the group of an item from the first one on is the same or comes later
    later_group : (g : G) (v : V) (t : T) → is_gt (against g least t) ≡ false → is_eq (gc g (group t)) ≡ false → against g v t ≡ Less
    later_group g v t h ne = cases (gc g (group t)) h ne
      where
        cases : (c : Ordering) → is_gt (ordering_then c (vc least (member t))) ≡ false → is_eq c ≡ false → ordering_then c (vc v (member t)) ≡ Less
        cases Less h ne = refl
        cases Equal h ne = absurd (false≢true (sym ne))
        cases Greater h ne = absurd (false≢true (sym h))

    members_found : (g : G) (v : V) (ts : List T) → IsStrictlySortedBy pairs_cmp ts → FromLeast g ts → list_any (λ u. is_eq (vc u v)) (members_at g ts) ≡ list_any (λ t. is_eq (against g v t)) ts
    members_found g v [] sorted from = refl
    members_found g v (t ∷ ts) sorted from = cases (members_found g v ts (sorted_tail pairs_cmp t ts sorted) from.1) (same (group t) g) refl
      where
        told : same (group t) g ≡ is_eq (gc g (group t))
        told = agree (group t) g ∙ turned gt (group t) g

        cases : list_any (λ u. is_eq (vc u v)) (members_at g ts) ≡ list_any (λ x. is_eq (against g v x)) ts → (b : Bool) → same (group t) g ≡ b
            → list_any (λ u. is_eq (vc u v)) (cond b (member t ∷ members_at g ts) []) ≡ (is_eq (against g v t) || list_any (λ x. is_eq (against g v x)) ts)
        cases rest true e = ap₂ (λ a b. a || b)
            (turned vt (member t) v ∙ ap (λ b. b && is_eq (vc v (member t))) (sym e ∙ told) ∙ sym (then_both (gc g (group t)) (vc v (member t))))
            rest
        cases rest false e =
            let after = later_group g v t from.0 (sym told ∙ e) in
            sym (ap₂ (λ a b. is_eq a || b) after (none_after g v t ts after (sorted_head pairs_cmp t ts sorted)))

    at_most : (o : Ordering) → (is_le o && true) ≡ true → is_gt o ≡ false
    at_most Less h = refl
    at_most Equal h = refl
    at_most Greater h = absurd (false≢true h)

    is_at_most : (o : Ordering) → is_gt o ≡ false → (is_le o && true) ≡ true
    is_at_most Less h = refl
    is_at_most Equal h = refl
    is_at_most Greater h = absurd (false≢true (sym h))

    module _ (first : T) (g : G) (is_first : (t : T) → pairs_cmp first t ≡ against g least t) where
      -- the part of a set from the first one on
      abbrev pub part_from : BTreeSet T → List T
      part_from s = keys_between pairs_cmp (Included first) Unbounded s

      from_least : (ks : List T) → FromLeast g (filter (range_contains pairs_cmp (Included first) Unbounded) ks)
      from_least ks =
          recursion_from_All (λ t. is_gt (against g least t) ≡ false) (filter (range_contains pairs_cmp (Included first) Unbounded) ks)
          (All-weaker (λ t. range_contains pairs_cmp (Included first) Unbounded t ≡ true) (λ t. is_gt (against g least t) ≡ false) (λ t h. sym (ap is_gt (is_first t)) ∙ at_most (pairs_cmp first t) h) (filter (range_contains pairs_cmp (Included first) Unbounded) ks)
          (filter_passes (range_contains pairs_cmp (Included first) Unbounded) ks))

      -- each item of the group is in that part
      covers : (v : V) (t : T) → is_eq (against g v t) ≡ true → range_contains pairs_cmp (Included first) Unbounded t ≡ true
      covers v t h =
          let parts = and_parts (is_eq (gc g (group t))) (is_eq (vc v (member t))) (sym (then_both (gc g (group t)) (vc v (member t))) ∙ h) in
          ap (λ o. is_le o && true) (is_first t) ∙ ap (λ c. is_le (ordering_then c (vc least (member t))) && true) (equal (gc g (group t)) parts.0) ∙ is_at_most (vc least (member t)) (zero_first (member t))

      -- THE LEMMA: those of the part that come before another group are the members of the group
      pub members_of : (s : BTreeSet T) → IsOrdered pairs_cmp s → (v : V) → list_any (λ u. is_eq (vc u v)) (members_at g (part_from s)) ≡ list_any (λ t. is_eq (against g v t)) s.keys
      members_of s ordered v =
          members_found g v (part_from s) (IsStrictlySortedBy-filter pairs_cmp (range_contains pairs_cmp (Included first) Unbounded) s.keys ordered) (from_least s.keys)
          ∙ any-filter_same (λ t. is_eq (against g v t)) (range_contains pairs_cmp (Included first) Unbounded) true (covers v) s.keys

      -- ---- the first member of the group

      module _ (pair : V → T) (right : (t : T) (v : V) → pairs_cmp t (pair v) ≡ ordering_then (gc (group t) g) (vc (member t) v))
          (at_least : (v : V) → is_gt (pairs_cmp first (pair v)) ≡ false) (s : BTreeSet T) where
        abbrev pub has : V → Bool
        has v = contains pairs_cmp s (pair v)

        pub none_first : IsKeyRangeOf pairs_cmp (Included first) Unbounded s [] → (v : V) → has v ≡ false
        none_first r v = r.5 refl (pair v) (at_least v, tt)

        module _ (exact : CmpEqualImpliesEq gc) (k : T) (ks : List T) (r : IsKeyRangeOf pairs_cmp (Included first) Unbounded s (k ∷ ks)) where
          at_most_it : (v : V) → has v ≡ true → is_gt (ordering_then (gc (group k) g) (vc (member k) v)) ≡ false
          at_most_it v h = sym (ap is_gt (right k v)) ∙ r.2 (pair v) (at_least v, tt) h

          pub one_first : group k ≡ g → (contains pairs_cmp s k ≡ true) × ((v : V) → has v ≡ true → is_gt (vc (member k) v) ≡ false)
          one_first e = (r.1.1, λ v h. sym (ap (λ o. is_gt (ordering_then o (vc (member k) v))) (ap (λ x. gc x g) e ∙ tied_itself gt g)) ∙ at_most_it v h)

          pub other_first : (group k ≡ g → ⊥) → (v : V) → has v ≡ false
          other_first apart v = false_from_ne_true (has v) (λ h. apart (sym (squeezed_between gt exact g (group k) _ _ (sym (ap is_gt (is_first k)) ∙ r.1.0.0) (at_most_it v h))))
