-- The first of the places where something holds.
use Rattle.std.proofs.Common.{◌≡◌, ◌∙◌, ℕ, zero, suc, ◌<◌, ◌≤◌, Bool, true, false, cond, ◌&&◌, List, [], ◌∷◌, ◌++◌, Option, Some, None, option_map, length, map, slice_get, inl, inr, ◌⊎◌, refl, sym, ap, subst, arith, true≢false}
use Rattle.std.specs.List.{list_any, fold}
use Rattle.std.specs.Option.{option_or, option_and_then}
use Rattle.std.proofs.lemmas.Option.{slice_get-map}
use Rattle.history.specs.Chains.{is_name}
use Rattle.history_consequences.proofs.Members.{In, any_in, in_any}
use Rattle.ids.specs.declared.names.EventName.{EventName}
use Rattle.journal_links.specs.Places.{place_of, ArePlaces}
use Rattle.journal_links.specs.declared.places.Places.{Places}
use Rattle.journal.specs.Items.{Item}
use Rattle.journal.specs.Links.{names_of}
use Rattle.journal.proofs.Touching.{any-map}
use Rattle.causality.specs.Placed.{kept_if, lesser_place, place_if, least_place, name_there}
use Rattle.causality.specs.Walks.{is_of, first_item}
use Rattle.causality.proofs.Collecting.{some_there, before_there}
use Rattle.causality.proofs.Following.{number, Apart}
use Rattle.causality.proofs.Placed.{lesser_right, lesser_first, lesser_second, fold_right, fold_least, kept_right, kept_some, named_is, is_named, least_nowhere, least_below, least_there}

pub false_by : (b : Bool) → (b ≡ true → ⊥) → b ≡ false
false_by true h = absurd (h refl)
false_by false h = refl

-- it holds at this place, if there is one, and at no place before it
pub record IsFirst (P : ℕ → Type 0) (place : Option ℕ) : Type 0 where
  pub right : (p : ℕ) → place ≡ Some p → P p
  pub below : (q : ℕ) → P q → (p : ℕ) × ((place ≡ Some p) × (p ≤ q))

pub first_turned : (P Q : ℕ → Type 0) (place : Option ℕ) → ((p : ℕ) → P p → Q p) → ((p : ℕ) → Q p → P p) → IsFirst P place → IsFirst Q place
first_turned P Q place f g h = record { right = λ p is. f p (h.right p is); below = λ q holds. h.below q (g q holds) }

-- of the lesser of two
pub first_either : (P Q : ℕ → Type 0) (a b : Option ℕ) → IsFirst P a → IsFirst Q b → IsFirst (λ p. P p ⊎ Q p) (lesser_place a b)
first_either P Q a b h g = record {
  right = λ p is. elim (lesser_right a b p is) [
    | inl x ↦ inl (h.right p x)
    | inr y ↦ inr (g.right p y)
  ];
  below = λ q holds. elim holds [
    | inl x ↦ (
        let one = h.below q x in
        let less = lesser_first a b one.0 one.1.0 in
        let le = one.1.1 in
        let than = less.1.1 in
        (less.0, (less.1.0, omega (arith, le, than))))
    | inr y ↦ (
        let one = g.below q y in
        let less = lesser_second a b one.0 one.1.0 in
        let le = one.1.1 in
        let than = less.1.1 in
        (less.0, (less.1.0, omega (arith, le, than))))
  ];
}

-- of the least of many
pub first_fold : {A : Type 0} (P : A → ℕ → Type 0) (f : A → Option ℕ) (xs : List A) → ((a : A) → In a xs → IsFirst (P a) (f a)) → IsFirst (λ p. (a : A) × In a xs × P a p) (fold lesser_place None (map f xs))
first_fold {A = A} P f xs h = record {
  right = λ p is. elim (fold_right (map f xs) None p is) [
    | inl nothing ↦ absurd (let e : None ≡ Some p = nothing in cc)
    | inr some ↦ (let a = in_any (λ x. is_name (f x) p) xs (sym (any-map f (λ o. is_name o p) xs) ∙ some) in (a.0, a.1, (h a.0 a.1).right p (named_is (f a.0) p a.2)))
  ];
  below = λ q g.
      let a = g.0 in
      let one = (h a g.1).below q g.2 in
      let listed : list_any (λ o. is_name o one.0) (map f xs) ≡ true = any-map f (λ o. is_name o one.0) xs ∙ any_in (λ x. is_name (f x) one.0) xs a g.1 (is_named (f a) one.0 one.1.0) in
      let least = fold_least (map f xs) None one.0 (inr listed) in
      let le = one.1.1 in
      let than = least.1.1 in
      (least.0, (least.1.0, omega (arith, le, than)));
}

-- of what is found by a first step
pub first_then : {A : Type 0} (P : A → ℕ → Type 0) (f : A → Option ℕ) (o : Option A) → ((a : A) → IsFirst (P a) (f a)) → IsFirst (λ q. (a : A) × (o ≡ Some a) × P a q) (option_and_then f o)
first_then P f None h = record {
  right = λ p is. cc;
  below = λ q g. (let none : None ≡ Some g.0 = g.1 in cc);
}
first_then P f (Some a) h = record {
  right = λ p is. (a, refl, (h a).right p is);
  below = λ q g. (let same : Some a ≡ Some g.0 = g.1 in let one : a ≡ g.0 = cc in (h a).below q (subst (λ x. P x q) (sym one) g.2));
}

-- of what is asked for under a condition
pub first_if : (b : Bool) (P : ℕ → Type 0) (m : Option ℕ) → IsFirst P m → IsFirst (λ q. (b ≡ true) × P q) (cond b m None)
first_if true P m h = record {
  right = λ p is. (refl, h.right p is);
  below = λ q g. h.below q g.1;
}
first_if false P m h = record {
  right = λ p is. cc;
  below = λ q g. absurd (true≢false (sym g.0));
}

-- of a place that passes a test
pub first_kept : (test : ℕ → Bool) (o : Option ℕ) → IsFirst (λ q. (o ≡ Some q) × (test q ≡ true)) (kept_if test o)
first_kept test o = record {
  right = λ p is. kept_right test o p is;
  below = λ q g. (q, (kept_some test o q g.0 g.1, omega arith));
}

-- of where events stand that pass a test there
pub first_placed : (places : Places) (good : ℕ → Bool) (names : List EventName) → IsFirst (λ p. (e : EventName) × In e names × ((place_of places e ≡ Some p) × (good p ≡ true))) (least_place places good names)
first_placed places good names = first_fold (λ e p. (place_of places e ≡ Some p) × (good p ≡ true)) (place_if places good) names (λ e i. first_kept good (place_of places e))

-- of where items of a set stand
pub members_first : (names : List EventName) (good : ℕ → Bool) (places : Places) (items : List Item) → ArePlaces places (names_of items) → Apart (map number items)
    → IsFirst (λ q. (i : Item) × (slice_get items q ≡ Some i) × ((is_of names i && good q) ≡ true)) (least_place places good names)
members_first names good places items are apart = record {
  right = λ p is. (let it = least_there names good places items are apart p is in (it.0, it.1.0, it.1.1));
  below = λ q g. there q g.0 g.1 g.2 (least_place places good names) refl;
}
  where
    there : (q : ℕ) (i : Item) → slice_get items q ≡ Some i → (is_of names i && good q) ≡ true → (o : Option ℕ) → least_place places good names ≡ o → (p : ℕ) × ((least_place places good names ≡ Some p) × (p ≤ q))
    there q i at holds None none = absurd (true≢false (sym holds ∙ least_nowhere names good places items are apart none q i at))
    there q i at holds (Some p) is = (p, (is, least_below names good places items are apart p is q i at holds))

-- ---- the name at the first place is the first name

pub item_none : (test : Item → Bool) (xs : List Item) → ((q : ℕ) (i : Item) → slice_get xs q ≡ Some i → test i ≡ true → ⊥) → first_item test xs ≡ None
item_none test [] h = refl
item_none test (x ∷ xs) h = λ t. option_or (cond (false_by (test x) (h 0 x refl) t) (Some x.event.name) None) (item_none test xs (λ q i at. h (suc q) i at) t)

item_found : (test : Item → Bool) (xs : List Item) (r : ℕ) (i : Item) → slice_get xs r ≡ Some i → test i ≡ true → ((q : ℕ) (j : Item) → slice_get xs q ≡ Some j → test j ≡ true → r ≤ q) → first_item test xs ≡ Some i.event.name
item_found test [] r i at fine least = cc
item_found test (x ∷ xs) zero i at fine least =
    let is : x ≡ i = cc in
    ap (λ b. option_or (cond b (Some x.event.name) None) (first_item test xs)) (ap test is ∙ fine) ∙ ap (λ (y : Item). Some y.event.name) is
item_found test (x ∷ xs) (suc r) i at fine least =
    ap (λ b. option_or (cond b (Some x.event.name) None) (first_item test xs)) (false_by (test x) (λ y. (let le = least 0 x refl y in omega (arith, le))))
    ∙ item_found test xs r i at fine (λ q j there y. (let le = least (suc q) j there y in omega (arith, le)))

-- THE LEMMA
pub first_named : (test : Item → Bool) (us rest : List Item) (m : Option ℕ) → IsFirst (λ q. (f : Item) × (slice_get us q ≡ Some f) × (test f ≡ true)) m → name_there (us ++ rest) m ≡ first_item test us
first_named test us rest None h = sym (item_none test us (λ q i at fine. (let p = h.below q (i, at, fine) in let none : None ≡ Some p.0 = p.1.0 in cc)))
first_named test us rest (Some p) h =
    let it = h.right p refl in
    slice_get-map (λ (j : Item). j.event.name) (us ++ rest) p ∙ ap (option_map (λ (j : Item). j.event.name)) (before_there us rest p it.0 it.1)
    ∙ sym (item_found test us p it.0 it.1 it.2 (λ q j at fine.
    (let r = h.below q (j, at, fine) in
    let same : Some p ≡ Some r.0 = r.1.0 in
    let one : p ≡ r.0 = cc in
    let le = r.1.1 in
    omega (arith, one, le))))

-- what stands among the first items stands so among all
pub stands_before : (us rest : List Item) (q : ℕ) (i : Item) → slice_get (us ++ rest) q ≡ Some i → q < length us → slice_get us q ≡ Some i
stands_before us rest q i at lt =
    let it = some_there us q lt in
    let both : Some it.0 ≡ Some i = sym (before_there us rest q it.0 it.1) ∙ at in
    it.1 ∙ both
