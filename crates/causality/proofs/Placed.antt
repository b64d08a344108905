-- What is found by the places of names is what is found by going over the journal.
use Rattle.std.proofs.Common.{◌≡◌, ◌∙◌, ℕ, zero, suc, ◌+◌, ◌-◌, ◌<◌, ◌≤◌, ◌==◌, Bool, true, false, cond, ◌&&◌, ◌||◌, List, [], ◌∷◌, ◌++◌, Option, Some, None, is_some, option_map, length, map, take, drop, slice_get, inl, inr, ◌⊎◌, refl, sym, ap, ap₂, subst, arith, eqb-true, eq-eqb, ne_eqb, true≢false, nat_lt, ltb-true, lt-ltb}
use Rattle.std.specs.Prelude.{min}
use Rattle.std.specs.List.{list_any, fold, All, AllByRecursion}
use Rattle.std.proofs.lemmas.List.Elements.{All-from_recursion}
use Rattle.std.specs.List.Sorted.{IsStrictlySortedBy}
use Rattle.std.specs.Option.{option_map_or, option_or}
use Rattle.std.specs.Ordering.{nat_cmp}
use Rattle.std.specs.BTreeMap.{is_at}
use Rattle.std.specs.Cmp.{unsigned_ties}
use Rattle.std.proofs.Math.Bool.{Bool-set}
use Rattle.std.proofs.Math.Logic.{∥∥₁_elim, ∥∥₁_map}
use Rattle.std.proofs.Props.{props}
use Rattle.std.proofs.lemmas.Bool.{or_left, or_right, or_cases, and_parts, and_from, ltb-false}
use Rattle.std.proofs.lemmas.List.{length-map, drop_all}
use Rattle.std.proofs.lemmas.Option.{slice_get-map, slice_get_within}
use Rattle.history.specs.Chains.{is_name}
use Rattle.history.proofs.Lists.{all_map}
use Rattle.ids.specs.declared.names.EventName.{EventName}
use Rattle.event.specs.Events.{DoesNoted}
use Rattle.event.proofs.Law.{noted_laws}
use Rattle.journal_links.specs.Places.{place_of, ArePlaces}
use Rattle.journal_links.specs.declared.places.Places.{Places}
use Rattle.journal.specs.Items.{Item, item_of, is_live}
use Rattle.journal.specs.Journals.{items_of, settled_item}
use Rattle.journal.specs.Lines.{Line, line_of, lines_of}
use Rattle.journal.specs.Links.{names_of}
use Rattle.journal.specs.declared.entry.Mark.{Mark}
use Rattle.journal.specs.declared.entry.Mark.TheVariants as mark
use Rattle.journal.specs.declared.journal.Journal.{Journal}
use Rattle.journal.specs.declared.settled.Settled.{Settled}
use Rattle.journal.proofs.Reversed.{map-map}
use Rattle.journal.proofs.Touching.{any-map}
use Rattle.causality.specs.Causes.{has_place, passes_at}
use Rattle.causality.specs.Journals.{IsJournal, NoneSettled}
use Rattle.causality.specs.Placed.{is_marked, kept_if, lesser_place, place_if, least_place, name_there}
use Rattle.causality.specs.Selections.{chosen, is_entered, first_name, first_settled, has_mark, first_marked, places_from}
use Rattle.causality.specs.Walks.{is_of}
use Rattle.causality.proofs.Behind.{none_of, places_past}
use Rattle.causality.proofs.Ascending.{Ascending, ascending, passes, above, first_is}
use Rattle.causality.proofs.Following.{number, Apart, one_place, Follows, follows}
use Rattle.causality.proofs.Numbered.{flipped}
use Rattle.causality.proofs.NameSets.{in_names, entered_is}

pub bool_same : (a b : Bool) → (a ≡ true → b ≡ true) → (b ≡ true → a ≡ true) → a ≡ b
bool_same true b f g = sym (f refl)
bool_same false true f g = g refl
bool_same false false f g = refl

pub one_name : (e f : EventName) → (e.0 == f.0) ≡ true → e ≡ f
one_name e f same = λ j. record { 0 = eqb-true e.0 f.0 same j }

pub self_name : (e f : EventName) → e ≡ f → (e.0 == f.0) ≡ true
self_name e f is = eq-eqb e.0 f.0 (ap (λ (n : EventName). n.0) is)

-- ---- a name is among names

in_at : (xs : List EventName) (p : ℕ) (e : EventName) → slice_get xs p ≡ Some e → in_names xs e ≡ true
in_at [] p e h = cc
in_at (x ∷ xs) zero e h = or_left _ _ (let is : x ≡ e = cc in self_name x e is)
in_at (x ∷ xs) (suc p) e h = or_right (x.0 == e.0) _ (in_at xs p e h)

at_in : (xs : List EventName) (e : EventName) → in_names xs e ≡ true → (p : ℕ) × (slice_get xs p ≡ Some e)
at_in [] e h = absurd (true≢false (sym h))
at_in (x ∷ xs) e h = elim (or_cases (x.0 == e.0) (in_names xs e) h) [
  | inl same ↦ (zero, ap Some (one_name x e same))
  | inr there ↦ (let it = at_in xs e there in (suc it.0, it.1))
]

pub any_found : (test : EventName → Bool) (xs : List EventName) → list_any test xs ≡ true → (e : EventName) × ((in_names xs e ≡ true) × (test e ≡ true))
any_found test [] h = absurd (true≢false (sym h))
any_found test (x ∷ xs) h = elim (or_cases (test x) (list_any test xs) h) [
  | inl here ↦ (x, (or_left _ _ (self_name x x refl), here))
  | inr there ↦ (let it = any_found test xs there in (it.0, (or_right (x.0 == it.0.0) _ it.1.0, it.1.1)))
]

pub any_in : (test : EventName → Bool) (xs : List EventName) (e : EventName) → in_names xs e ≡ true → test e ≡ true → list_any test xs ≡ true
any_in test [] e h g = absurd (true≢false (sym h))
any_in test (x ∷ xs) e h g = elim (or_cases (x.0 == e.0) (in_names xs e) h) [
  | inl same ↦ or_left _ _ (ap test (one_name x e same) ∙ g)
  | inr there ↦ or_right (test x) _ (any_in test xs e there g)
]

of_in : (names : List EventName) (i : Item) → is_of names i ≡ in_names names i.event.name
of_in names i = any-map (λ (e : EventName). e.0) (λ n. n == i.event.name.0) names

-- ---- what a journal has

module _ (places : Places) (items : List Item) (h : ArePlaces places (names_of items)) where
  -- a name that is found has been entered
  found_entered : (e : EventName) → is_some (place_of places e) ≡ is_entered (lines_of items) e
  found_entered e = bool_same _ _ (λ some. forth (place_of places e) refl some) (λ has. (let it = at_in (names_of items) e (sym (entered_is items items e) ∙ has) in (h e).all it.0 it.1))
    where
      forth : (o : Option ℕ) → place_of places e ≡ o → is_some o ≡ true → is_entered (lines_of items) e ≡ true
      forth None is some = absurd (true≢false (sym some))
      forth (Some p) is some = entered_is items items e ∙ in_at (names_of items) p e ((h e).right p is)

  pub place_within : (e : EventName) (p : ℕ) → place_of places e ≡ Some p → p < length items
  place_within e p is =
      let lt = slice_get_within (names_of items) p e ((h e).right p is) in
      let many = length-map items (λ (i : Item). i.event.name) in
      omega (arith, lt, many)

  -- where each name stands once, an item's name is found where it stands
  pub place_there : Apart (map number items) → (p : ℕ) (i : Item) → slice_get items p ≡ Some i → place_of places i.event.name ≡ Some p
  place_there apart p i at = by (place_of places i.event.name) refl
    where
      named : slice_get (names_of items) p ≡ Some i.event.name
      named = slice_get-map (λ (j : Item). j.event.name) items p ∙ ap (option_map (λ (j : Item). j.event.name)) at

      numbered : (q : ℕ) → slice_get (names_of items) q ≡ Some i.event.name → slice_get (map number items) q ≡ Some (number i)
      numbered q there = ap (λ ns. slice_get ns q) (sym (map-map (λ (e : EventName). e.0) (λ (j : Item). j.event.name) items)) ∙ slice_get-map (λ (e : EventName). e.0) (names_of items) q ∙ ap (option_map (λ (e : EventName). e.0)) there

      by : (o : Option ℕ) → place_of places i.event.name ≡ o → place_of places i.event.name ≡ Some p
      by None is = absurd (true≢false (sym ((h i.event.name).all p named) ∙ ap is_some is))
      by (Some q) is = is ∙ ap Some (one_place (map number items) apart q p (number i) (numbered q ((h i.event.name).right q is)) (numbered p named))

pub entered_by_place : (places : Places) (items : List Item) → ∥ ArePlaces places (names_of items) ∥₁ → (e : EventName) → is_some (place_of places e) ≡ is_entered (lines_of items) e
entered_by_place places items h e = ∥∥₁_elim h (Bool-set _ _) (λ are. found_entered places items are e)

pub within_by_place : (places : Places) (items : List Item) → ∥ ArePlaces places (names_of items) ∥₁ → (e : EventName) (p : ℕ) → place_of places e ≡ Some p → p < length items
within_by_place places items h e p is = ltb-true p (length items) (∥∥₁_elim h (Bool-set _ _) (λ are. lt-ltb p (length items) (place_within places items are e p is)))

pub apart_items : (items : List Item) → IsJournal items → ∥ Apart (map number items) ∥₁
apart_items items journal = ∥∥₁_map journal (λ j. (let f : Follows items = follows DoesNoted noted_laws j.3 in f.apart))

-- ---- the least of places

pub lesser_right : (a b : Option ℕ) (p : ℕ) → lesser_place a b ≡ Some p → (a ≡ Some p) ⊎ (b ≡ Some p)
lesser_right None b p h = inr h
lesser_right (Some x) None p h = inl h
lesser_right (Some x) (Some y) p h = by (nat_lt x y) refl
  where
    one : min x y ≡ p
    one = let both : Some (min x y) ≡ Some p = h in cc

    by : (c : Bool) → nat_lt x y ≡ c → (◌≡◌ {A = Option ℕ} (Some x) (Some p)) ⊎ (◌≡◌ {A = Option ℕ} (Some y) (Some p))
    by true e = inl (ap Some (let lt = ltb-true x y e in omega (arith, lt, one)))
    by false e = inr (ap Some (let le : y ≤ x = ltb-false x y e in omega (arith, le, one)))

pub lesser_first : (a b : Option ℕ) (q : ℕ) → a ≡ Some q → (p : ℕ) × ((lesser_place a b ≡ Some p) × (p ≤ q))
lesser_first None b q h = cc
lesser_first (Some x) None q h = (x, (refl, (let is : x ≡ q = cc in omega (arith, is))))
lesser_first (Some x) (Some y) q h = (min x y, (refl, (let is : x ≡ q = cc in omega (arith, is))))

pub lesser_second : (a b : Option ℕ) (q : ℕ) → b ≡ Some q → (p : ℕ) × ((lesser_place a b ≡ Some p) × (p ≤ q))
lesser_second None b q h = (q, (h, omega arith))
lesser_second (Some x) None q h = cc
lesser_second (Some x) (Some y) q h = (min x y, (refl, (let is : y ≡ q = cc in omega (arith, is))))

pub named_is : (o : Option ℕ) (p : ℕ) → is_name o p ≡ true → o ≡ Some p
named_is None p h = absurd (true≢false (sym h))
named_is (Some x) p h = ap Some (eqb-true x p h)

pub is_named : (o : Option ℕ) (p : ℕ) → o ≡ Some p → is_name o p ≡ true
is_named o p h = ap (λ a. is_name a p) h ∙ eq-eqb p p refl

pub fold_right : (os : List (Option ℕ)) (a : Option ℕ) (p : ℕ) → fold lesser_place a os ≡ Some p → (a ≡ Some p) ⊎ (list_any (λ o. is_name o p) os ≡ true)
fold_right [] a p h = inl h
fold_right (o ∷ os) a p h = elim (fold_right os (lesser_place a o) p h) [
  | inl g ↦ elim (lesser_right a o p g) [
    | inl x ↦ inl x
    | inr y ↦ inr (or_left _ _ (is_named o p y))
  ]
  | inr there ↦ inr (or_right (is_name o p) _ there)
]

pub fold_least : (os : List (Option ℕ)) (a : Option ℕ) (q : ℕ) → (a ≡ Some q) ⊎ (list_any (λ o. is_name o q) os ≡ true) → (p : ℕ) × ((fold lesser_place a os ≡ Some p) × (p ≤ q))
fold_least [] a q (inl h) = (q, (h, omega arith))
fold_least [] a q (inr h) = absurd (true≢false (sym h))
fold_least (o ∷ os) a q (inl h) =
    let first = lesser_first a o q h in
    let rest = fold_least os (lesser_place a o) first.0 (inl first.1.0) in
    (rest.0, (rest.1.0, (let x = first.1.1 in let y = rest.1.1 in omega (arith, x, y))))
fold_least (o ∷ os) a q (inr h) = elim (or_cases (is_name o q) (list_any (λ u. is_name u q) os) h) [
  | inl here ↦ (
      let second = lesser_second a o q (named_is o q here) in
      let rest = fold_least os (lesser_place a o) second.0 (inl second.1.0) in
      (rest.0, (rest.1.0, (let x = second.1.1 in let y = rest.1.1 in omega (arith, x, y)))))
  | inr there ↦ fold_least os (lesser_place a o) q (inr there)
]

pub kept_right : (test : ℕ → Bool) (o : Option ℕ) (p : ℕ) → kept_if test o ≡ Some p → (o ≡ Some p) × (test p ≡ true)
kept_right test None p h = cc
kept_right test (Some x) p h = by (test x) refl h
  where
    by : (b : Bool) → test x ≡ b → cond b (Some x) None ≡ Some p → (◌≡◌ {A = Option ℕ} (Some x) (Some p)) × (test p ≡ true)
    by true e g = (g, (let is : x ≡ p = cc in ap test (sym is) ∙ e))
    by false e g = cc

pub kept_some : (test : ℕ → Bool) (o : Option ℕ) (p : ℕ) → o ≡ Some p → test p ≡ true → kept_if test o ≡ Some p
kept_some test o p h g = ap (kept_if test) h ∙ ap (λ b. cond b (Some p) None) g

-- the least of places is within
pub least_within : (places : Places) (items : List Item) (good : ℕ → Bool) (names : List EventName) → ∥ ArePlaces places (names_of items) ∥₁ → (p : ℕ) → least_place places good names ≡ Some p → p < length items
least_within places items good names h p is = elim (fold_right (map (place_if places good) names) None p is) [
  | inl nothing ↦ absurd (let f : None ≡ Some p = nothing in cc)
  | inr some ↦ (
      let it = any_found (λ e. is_name (place_if places good e) p) names (sym (any-map (place_if places good) (λ o. is_name o p) names) ∙ some) in
      within_by_place places items h it.0 p (kept_right good (place_of places it.0) p (named_is _ p it.1.1)).0)
]

-- ---- the first item of a set that stands at a good place

abbrev pub first_good : List EventName → (ℕ → Bool) → ℕ → List Item → Option EventName
first_good names good n [] = None
first_good names good n (i ∷ items) = option_or (cond (is_of names i && good n) (Some i.event.name) None) (first_good names good (n + 1) items)

module _ (names : List EventName) (good : ℕ → Bool) where
  good_none : (n : ℕ) (items : List Item) → ((q : ℕ) (i : Item) → slice_get items q ≡ Some i → (is_of names i && good (n + q)) ≡ false) → first_good names good n items ≡ None
  good_none n [] h = refl
  good_none n (i ∷ items) h =
      let here : (is_of names i && good n) ≡ false = (let e : n + 0 ≡ n = omega arith in ap (λ k. is_of names i && good k) (sym e) ∙ h 0 i refl) in
      ap (λ b. option_or (cond b (Some i.event.name) None) (first_good names good (n + 1) items)) here
      ∙ good_none (n + 1) items (λ q j at. (let e : (n + 1) + q ≡ n + suc q = omega arith in ap (λ k. is_of names j && good k) e ∙ h (suc q) j at))

  good_found : (n : ℕ) (items : List Item) (r : ℕ) (i : Item) → slice_get items r ≡ Some i → (is_of names i && good (n + r)) ≡ true
      → ((q : ℕ) (j : Item) → slice_get items q ≡ Some j → (is_of names j && good (n + q)) ≡ true → r ≤ q) → first_good names good n items ≡ Some i.event.name
  good_found n [] r i at h least = cc
  good_found n (x ∷ items) zero i at h least =
      let is : x ≡ i = cc in
      let e : n + 0 ≡ n = omega arith in
      let here : (is_of names x && good n) ≡ true = ap (λ y. is_of names y && good n) is ∙ ap (λ k. is_of names i && good k) (sym e) ∙ h in
      ap (λ b. option_or (cond b (Some x.event.name) None) (first_good names good (n + 1) items)) here ∙ ap (λ (y : Item). Some y.event.name) is
  good_found n (x ∷ items) (suc r) i at h least =
      ap (λ b. option_or (cond b (Some x.event.name) None) (first_good names good (n + 1) items)) (not_here (is_of names x && good n) refl)
      ∙ good_found (n + 1) items r i at (ap (λ k. is_of names i && good k) (on r) ∙ h) (λ q j there g. (let le = least (suc q) j there (ap (λ k. is_of names j && good k) (sym (on q)) ∙ g) in omega (arith, le)))
    where
      on : (q : ℕ) → (n + 1) + q ≡ n + suc q
      on q = omega arith

      not_here : (b : Bool) → (is_of names x && good n) ≡ b → (is_of names x && good n) ≡ false
      not_here false e = e
      not_here true e = absurd (let le = least 0 x refl (let f : n + 0 ≡ n = omega arith in ap (λ k. is_of names x && good k) f ∙ e) in omega (arith, le))

module _ (names : List EventName) (good : ℕ → Bool) (places : Places) (items : List Item) (h : ArePlaces places (names_of items)) (apart : Apart (map number items)) where
  listed_at : (p : ℕ) (i : Item) → slice_get items p ≡ Some i → (is_of names i && good p) ≡ true → list_any (λ o. is_name o p) (map (place_if places good) names) ≡ true
  listed_at p i at g =
      let both = and_parts (is_of names i) (good p) g in
      any-map (place_if places good) (λ o. is_name o p) names
      ∙ any_in (λ e. is_name (place_if places good e) p) names i.event.name (sym (of_in names i) ∙ both.0)
      (is_named _ p (kept_some good (place_of places i.event.name) p (place_there places items h apart p i at) both.1))

  -- where there is no least place nobody of the set stands at a good one
  pub least_nowhere : least_place places good names ≡ None → (q : ℕ) (i : Item) → slice_get items q ≡ Some i → (is_of names i && good q) ≡ false
  least_nowhere none q i at = by (is_of names i && good q) refl
    where
      by : (b : Bool) → (is_of names i && good q) ≡ b → (is_of names i && good q) ≡ false
      by false e = e
      by true e = absurd (let least = fold_least (map (place_if places good) names) None q (inr (listed_at q i at e)) in let both : None ≡ Some least.0 = sym none ∙ least.1.0 in cc)

  -- nobody of the set stands at a good place before the least one
  pub least_below : (p : ℕ) → least_place places good names ≡ Some p → (q : ℕ) (j : Item) → slice_get items q ≡ Some j → (is_of names j && good q) ≡ true → p ≤ q
  least_below p is q j at g =
      let least = fold_least (map (place_if places good) names) None q (inr (listed_at q j at g)) in
      let both : Some p ≡ Some least.0 = sym is ∙ least.1.0 in
      let one : p ≡ least.0 = cc in
      let le = least.1.1 in
      omega (arith, one, le)

  item_named : (p : ℕ) (o : Option Item) → slice_get items p ≡ o → (e : EventName) → slice_get (names_of items) p ≡ Some e → (i : Item) × ((slice_get items p ≡ Some i) × (i.event.name ≡ e))
  item_named p None at e named = absurd (let f : None ≡ Some e = sym (slice_get-map (λ (j : Item). j.event.name) items p ∙ ap (option_map (λ (j : Item). j.event.name)) at) ∙ named in cc)
  item_named p (Some i) at e named = (i, (at, (let f : Some i.event.name ≡ Some e = sym (slice_get-map (λ (j : Item). j.event.name) items p ∙ ap (option_map (λ (j : Item). j.event.name)) at) ∙ named in cc)))

  -- one of the set stands at the least place, which is good
  pub least_there : (p : ℕ) → least_place places good names ≡ Some p → (i : Item) × ((slice_get items p ≡ Some i) × ((is_of names i && good p) ≡ true))
  least_there p is = elim (fold_right (map (place_if places good) names) None p is) [
    | inl nothing ↦ absurd (let f : None ≡ Some p = nothing in cc)
    | inr some ↦ (
        let it = any_found (λ e. is_name (place_if places good e) p) names (sym (any-map (place_if places good) (λ o. is_name o p) names) ∙ some) in
        let kept = kept_right good (place_of places it.0) p (named_is _ p it.1.1) in
        let at = item_named p (slice_get items p) refl it.0 ((h it.0).right p kept.0) in
        (at.0, (at.1.0, and_from (is_of names at.0) (good p) (of_in names at.0 ∙ ap (in_names names) at.1.1 ∙ it.1.0) kept.1)))
  ]

  -- THE LEMMA: the name at the least place is the first one
  pub least_first : name_there items (least_place places good names) ≡ first_good names good 0 items
  least_first = by (least_place places good names) refl
    where
      by : (o : Option ℕ) → least_place places good names ≡ o → name_there items o ≡ first_good names good 0 items
      by None none = sym (good_none names good 0 items (λ q i at. (let e : 0 + q ≡ q = omega arith in ap (λ k. is_of names i && good k) e ∙ least_nowhere none q i at)))
      by (Some p) is =
          let it = least_there p is in
          let e : 0 + p ≡ p = omega arith in
          slice_get-map (λ (j : Item). j.event.name) items p ∙ ap (option_map (λ (j : Item). j.event.name)) it.1.0
          ∙ sym (good_found names good 0 items p it.0 it.1.0 (ap (λ k. is_of names it.0 && good k) e ∙ it.1.1) (λ q j at g. least_below p is q j at (let f : q ≡ 0 + q = omega arith in ap (λ k. is_of names j && good k) f ∙ g)))

-- of those that are settled
pub settled_good : (names : List EventName) (all : List Item) (base n k : ℕ) (items : List Item) → n + k ≡ base → first_name (chosen names) (take k (map (line_of all) items)) ≡ first_good names (λ p. nat_lt p base) n items
settled_good names all base n zero items is = sym (good_none names (λ p. nat_lt p base) n items (λ q i at. past (n + q) (is_of names i) (let e : base ≤ n + q = omega (arith, is) in e)))
  where
    not_below : (p : ℕ) (b : Bool) → nat_lt p base ≡ b → base ≤ p → nat_lt p base ≡ false
    not_below p false e le = e
    not_below p true e le = absurd (let lt = ltb-true p base e in omega (arith, lt, le))

    nothing : (a : Bool) → (a && false) ≡ false
    nothing true = refl
    nothing false = refl

    past : (p : ℕ) (a : Bool) → base ≤ p → (a && nat_lt p base) ≡ false
    past p a le = ap (λ b. a && b) (not_below p (nat_lt p base) refl le) ∙ nothing a
settled_good names all base n (suc k) [] is = refl
settled_good names all base n (suc k) (i ∷ items) is =
    let lt : n < base = omega (arith, is) in
    let on : (n + 1) + k ≡ base = omega (arith, is) in
    ap₂ (λ b o. option_or (cond b (Some i.event.name) None) o) (sym (ap (λ b. is_of names i && b) (lt-ltb n base lt) ∙ one (is_of names i))) (settled_good names all base (n + 1) k items on)
  where
    one : (a : Bool) → (a && true) ≡ a
    one true = refl
    one false = refl

-- of those that have a mark
mark_told : (m : Mark) (all : List Item) (i : Item) → has_mark m (line_of all i) ≡ is_marked m i
mark_told mark.Live all i = refl
mark_told mark.Undone all i = refl

pub marked_good : (names : List EventName) (all : List Item) (m : Mark) (good : ℕ → Bool) (n : ℕ) (items : List Item) → ((q : ℕ) (i : Item) → slice_get items q ≡ Some i → good (n + q) ≡ is_marked m i)
    → first_name (λ l. chosen names l && has_mark m l) (map (line_of all) items) ≡ first_good names good n items
marked_good names all m good n [] h = refl
marked_good names all m good n (i ∷ items) h =
    let here : has_mark m (line_of all i) ≡ good n = mark_told m all i ∙ sym (h 0 i refl) ∙ (let e : n + 0 ≡ n = omega arith in ap good e) in
    ap₂ (λ b o. option_or (cond (is_of names i && b) (Some i.event.name) None) o) here
    (marked_good names all m good (n + 1) items (λ q j at. (let e : (n + 1) + q ≡ n + suc q = omega arith in ap good e ∙ h (suc q) j at)))

names_set : (x y : Option EventName) → IsProp (x ≡ y)
names_set = hlevel props

-- THE FIRST that is settled, and THE FIRST that has a mark
pub settled_by_place : (places : Places) (items : List Item) (names : List EventName) (base : ℕ) → ∥ ArePlaces places (names_of items) ∥₁ → IsJournal items
    → name_there items (least_place places (λ p. nat_lt p base) names) ≡ first_settled names base (lines_of items)
settled_by_place places items names base h journal =
    ∥∥₁_elim h (names_set _ _) (λ are. ∥∥₁_elim (apart_items items journal) (names_set _ _) (λ apart.
    least_first names (λ p. nat_lt p base) places items are apart ∙ sym (settled_good names items base 0 base items (omega arith))))

pub marked_by_place : (places : Places) (items : List Item) (names : List EventName) (m : Mark) → ∥ ArePlaces places (names_of items) ∥₁ → IsJournal items
    → name_there items (least_place places (passes_at (is_marked m) items) names) ≡ first_marked m names (lines_of items)
marked_by_place places items names m h journal =
    ∥∥₁_elim h (names_set _ _) (λ are. ∥∥₁_elim (apart_items items journal) (names_set _ _) (λ apart.
    least_first names (passes_at (is_marked m) items) places items are apart
    ∙ sym (marked_good names items m (passes_at (is_marked m) items) 0 items (λ q i at. (let e : 0 + q ≡ q = omega arith in ap (passes_at (is_marked m) items) e ∙ ap (λ o. option_map_or (is_marked m) o false) at)))))

-- ---- places in ascending order

pub put_place : (here : ℕ) (old new : List ℕ) → ((q : ℕ) → list_any (is_at (nat_cmp q)) new ≡ cond (is_at (nat_cmp here) q) true (list_any (is_at (nat_cmp q)) old)) → (q : ℕ) → has_place new q ≡ ((here == q) || has_place old q)
put_place here old new updates q = sym (members new q) ∙ updates q ∙ (λ m. cond ((at_place here q ∙ flipped q here) m) true (members old q m)) ∙ either (here == q) (has_place old q)
  where
    at_place : (p r : ℕ) → is_at (nat_cmp p) r ≡ (r == p)
    at_place p r = sym (unsigned_ties p r) ∙ flipped p r

    members : (ks : List ℕ) (r : ℕ) → list_any (is_at (nat_cmp r)) ks ≡ has_place ks r
    members ks r = λ m. list_any (λ p. at_place r p m) ks

    either : (a b : Bool) → cond a true b ≡ (a || b)
    either true b = refl
    either false b = refl

-- an ascending list of the places of a set is that of its lines
ascending_places : (names : List EventName) (lines : List Line) (n : ℕ) (ks : List ℕ) → Ascending ks → AllByRecursion (λ k. n ≤ k) ks → ((q : ℕ) → has_place ks (n + q) ≡ passes (chosen names) lines q) → ks ≡ places_from n names lines
ascending_places names [] n [] up low has = refl
ascending_places names [] n (k ∷ ks) up (low, lows) has =
    let e : n + (k - n) ≡ k = omega (arith, low) in
    absurd (true≢false (sym (ap (has_place (k ∷ ks)) e ∙ or_left _ _ (eq-eqb k k refl)) ∙ has (k - n)))
ascending_places names (x ∷ xs) n ks up low has = by (chosen names x) refl ks up low has (λ js ups lows more. ascending_places names xs (n + 1) js ups lows more)
  where
    here : n + 0 ≡ n
    here = omega arith

    on : (q : ℕ) → (n + 1) + q ≡ n + suc q
    on q = omega arith

    by : (b : Bool) → chosen names x ≡ b → (js : List ℕ) → Ascending js → AllByRecursion (λ k. n ≤ k) js → ((q : ℕ) → has_place js (n + q) ≡ passes (chosen names) (x ∷ xs) q)
        → ((is : List ℕ) → Ascending is → AllByRecursion (λ k. n + 1 ≤ k) is → ((q : ℕ) → has_place is ((n + 1) + q) ≡ passes (chosen names) xs q) → is ≡ places_from (n + 1) names xs)
        → js ≡ cond b (n ∷ places_from (n + 1) names xs) (places_from (n + 1) names xs)
    by false e js up low has rest =
        let none : has_place js n ≡ false = ap (has_place js) (sym here) ∙ has 0 ∙ e in
        rest js up (above n js low none) (λ q. ap (has_place js) (on q) ∙ has (suc q))
    by true e [] up low has rest = absurd (true≢false (sym (has 0 ∙ e)))
    by true e (k ∷ js) (up, ups) (low, lows) has rest =
        let first : k ≡ n = first_is n k js low up (ap (has_place (k ∷ js)) (sym here) ∙ has 0 ∙ e) in
        ap₂ (λ y ys. y ∷ ys) first
        (rest js ups (all_map _ _ js (λ q lt. omega (arith, lt, first)) up)
        (λ q. (let ne : (k == (n + 1) + q) ≡ false = ne_eqb k ((n + 1) + q) (λ same. omega (arith, same, first)) in sym (ap (λ b. b || has_place js ((n + 1) + q)) ne)) ∙ ap (has_place (k ∷ js)) (on q) ∙ has (suc q)))

module _ (places : Places) (items : List Item) (names : List EventName) (h : ArePlaces places (names_of items)) (apart : Apart (map number items)) where
  -- a place is one of the set's just where a line of the set stands there
  chosen_there : (q : ℕ) → list_any (λ e. is_name (place_of places e) q) names ≡ passes (chosen names) (lines_of items) q
  chosen_there q = by (slice_get items q) refl
    where
      line_at : (o : Option Item) → slice_get items q ≡ o → passes (chosen names) (lines_of items) q ≡ option_map_or (λ i. is_of names i) o false
      line_at None at = ap (λ o. option_map_or (chosen names) o false) (slice_get-map (line_of items) items q ∙ ap (option_map (line_of items)) at)
      line_at (Some i) at = ap (λ o. option_map_or (chosen names) o false) (slice_get-map (line_of items) items q ∙ ap (option_map (line_of items)) at)

      named : (o : Option Item) → slice_get items q ≡ o → (e : EventName) → place_of places e ≡ Some q → option_map (λ (j : Item). j.event.name) o ≡ Some e
      named o at e is = sym (slice_get-map (λ (j : Item). j.event.name) items q ∙ ap (option_map (λ (j : Item). j.event.name)) at) ∙ (h e).right q is

      by : (o : Option Item) → slice_get items q ≡ o → list_any (λ e. is_name (place_of places e) q) names ≡ passes (chosen names) (lines_of items) q
      by None at = bool_same _ _
          (λ some. absurd (let it = any_found (λ e. is_name (place_of places e) q) names some in let f : None ≡ Some it.0 = named None at it.0 (named_is _ q it.1.1) in cc))
          (λ has. absurd (true≢false (sym has ∙ line_at None at)))
      by (Some i) at = bool_same _ _
          (λ some. (let it = any_found (λ e. is_name (place_of places e) q) names some in let f : Some i.event.name ≡ Some it.0 = named (Some i) at it.0 (named_is _ q it.1.1) in let is : i.event.name ≡ it.0 = cc in
          line_at (Some i) at ∙ of_in names i ∙ ap (in_names names) is ∙ it.1.0))
          (λ has. any_in (λ e. is_name (place_of places e) q) names i.event.name (sym (of_in names i) ∙ sym (line_at (Some i) at) ∙ has) (is_named _ q (place_there places items h apart q i at)))

positions_set : (xs ys : List ℕ) → IsProp (xs ≡ ys)
positions_set = hlevel props

-- THE POSITIONS of a set
pub positions_by_place : (places : Places) (items : List Item) (names : List EventName) (ks : List ℕ) → ∥ ArePlaces places (names_of items) ∥₁ → IsJournal items → IsStrictlySortedBy nat_cmp ks
    → ((q : ℕ) → has_place ks q ≡ list_any (λ e. is_name (place_of places e) q) names) → ks ≡ places_from 0 names (lines_of items)
positions_by_place places items names ks h journal sorted has =
    ∥∥₁_elim h (positions_set _ _) (λ are. ∥∥₁_elim (apart_items items journal) (positions_set _ _) (λ apart.
    ascending_places names (lines_of items) 0 ks (ascending ks sorted) (all_low ks) (λ q. (let e : 0 + q ≡ q = omega arith in ap (has_place ks) e) ∙ has q ∙ chosen_there places items names are apart q)))
  where
    all_low : (js : List ℕ) → AllByRecursion (λ k. 0 ≤ k) js
    all_low [] = tt
    all_low (j ∷ js) = (omega arith, all_low js)

places_low : (names : List EventName) (lines : List Line) (n : ℕ) → AllByRecursion (λ k. n ≤ k) (places_from n names lines)
places_low names [] n = tt
places_low names (l ∷ lines) n = by (chosen names l) (all_map _ _ (places_from (n + 1) names lines) (λ k le. omega (arith, le)) (places_low names lines (n + 1)))
  where
    by : (b : Bool) → AllByRecursion (λ k. n ≤ k) (places_from (n + 1) names lines) → AllByRecursion (λ k. n ≤ k) (cond b (n ∷ places_from (n + 1) names lines) (places_from (n + 1) names lines))
    by true h = (omega arith, h)
    by false h = h

-- where none of a set is settled, its places are behind what is
pub places_behind : (names : List EventName) (j : Journal) → NoneSettled names j → All (λ p. length j.settled.now ≤ p) (places_from 0 names (lines_of (items_of j)))
places_behind names j none =
    let ss = map settled_item j.settled.now in
    let ys = map item_of j.entries.now in
    let all = items_of j in
    let many = length-map j.settled.now settled_item in
    let past = places_past names all 0 ss ys (none_of names j none) in
    All-from_recursion (λ p. length j.settled.now ≤ p) (places_from 0 names (lines_of all))
    (subst (AllByRecursion (λ p. length j.settled.now ≤ p)) (sym past)
    (all_map _ _ (places_from (0 + length ss) names (map (line_of all) ys)) (λ k le. omega (arith, le, many)) (places_low names (map (line_of all) ys) (0 + length ss))))

-- ---- places of what is listed, one by one

regroup : (a b c : Bool) → ((a || b) || c) ≡ (b || (a || c))
regroup true true c = refl
regroup true false c = refl
regroup false b c = refl

-- the places so far and those of what is left, where one more was looked at
pub placed_more : {A : Type 0} (f : A → Option ℕ) (x : A) (left rest : List A) → left ≡ x ∷ rest → (old new : List ℕ) → ((q : ℕ) → has_place new q ≡ (is_name (f x) q || has_place old q))
    → (q : ℕ) → (has_place new q || list_any (λ e. is_name (f e) q) rest) ≡ (has_place old q || list_any (λ e. is_name (f e) q) left)
placed_more f x left rest is old new added q =
    ap (λ b. b || list_any (λ e. is_name (f e) q) rest) (added q)
    ∙ regroup (is_name (f x) q) (has_place old q) (list_any (λ e. is_name (f e) q) rest)
    ∙ sym (ap (λ es. has_place old q || list_any (λ e. is_name (f e) q) es) is)

-- and where none is left
pub placed_all : {A : Type 0} (f : A → Option ℕ) (xs : List A) (i : ℕ) → length xs ≤ i → (ks : List ℕ) (q : ℕ) → has_place ks q ≡ (has_place ks q || list_any (λ e. is_name (f e) q) (drop i xs))
placed_all f xs i h ks q = sym (ap (λ es. has_place ks q || list_any (λ e. is_name (f e) q) es) (drop_all i xs h) ∙ or_nothing (has_place ks q))
  where
    or_nothing : (b : Bool) → (b || false) ≡ b
    or_nothing true = refl
    or_nothing false = refl

-- a place that was put, or none
pub put_if : (place : Option ℕ) (here : ℕ) (old new : List ℕ) → place ≡ Some here → ((q : ℕ) → list_any (is_at (nat_cmp q)) new ≡ cond (is_at (nat_cmp here) q) true (list_any (is_at (nat_cmp q)) old))
    → (q : ℕ) → has_place new q ≡ (is_name place q || has_place old q)
put_if place here old new is updates q = put_place here old new updates q ∙ sym (ap (λ o. is_name o q || has_place old q) is)

-- ---- the mark at a place

-- what is settled is live
pub settled_mark : (m : Mark) (ss : List Settled) (ys : List Item) (p : ℕ) → p < length ss → is_live m ≡ passes_at (is_marked m) (map settled_item ss ++ ys) p
settled_mark m [] ys p h = absurd (omega arith)
settled_mark mark.Live (s ∷ ss) ys zero h = refl
settled_mark mark.Undone (s ∷ ss) ys zero h = refl
settled_mark m (s ∷ ss) ys (suc p) h = settled_mark m ss ys p (omega arith)
