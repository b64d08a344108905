-- Places stay right as names come and change places.
use Rattle.std.proofs.Common.{◌≡◌, ◌≢◌, ◌∙◌, ℕ, zero, suc, ◌+◌, ◌<◌, ◌==◌, Bool, true, false, cond, List, [], ◌∷◌, ◌++◌, Option, Some, None, is_some, length, slice_get, get_or, refl, sym, ap, arith, eqb-true, eq-eqb, true≢false}
use Rattle.ids.specs.declared.names.EventName.{EventName}
use Rattle.journal_links.specs.Places.{place_of, HasRoom, Finds, ArePlaces}
use Rattle.journal_links.specs.declared.places.Places.{Places}

pub one_name : (e f : EventName) → (e.0 == f.0) ≡ true → e ≡ f
one_name e f same = λ j. record { 0 = eqb-true e.0 f.0 same j }

pub two_names : (e f : EventName) → (e.0 == f.0) ≡ false → e ≢ f
two_names e f apart is = true≢false (sym (eq-eqb e.0 f.0 (ap (λ (n : EventName). n.0) is)) ∙ apart)

pub get_front : {A : Type 0} (xs ys : List A) (p : ℕ) (x : A) → slice_get xs p ≡ Some x → slice_get (xs ++ ys) p ≡ Some x
get_front [] ys p x h = cc
get_front (y ∷ xs) ys zero x h = h
get_front (y ∷ xs) ys (suc p) x h = get_front xs ys p x h

pub get_end : {A : Type 0} (xs : List A) (y : A) → slice_get (xs ++ y ∷ []) (length xs) ≡ Some y
get_end [] y = refl
get_end (x ∷ xs) y = get_end xs y

-- what stands anywhere is the last one, or stood there before it
pub get_before : {A : Type 0} (xs : List A) (y : A) (p : ℕ) (x : A) → slice_get (xs ++ y ∷ []) p ≡ Some x → x ≢ y → slice_get xs p ≡ Some x
get_before [] y zero x h ne = absurd (ne (let is : Some y ≡ Some x = h in cc))
get_before [] y (suc p) x h ne = h
get_before (z ∷ xs) y zero x h ne = h
get_before (z ∷ xs) y (suc p) x h ne = get_before xs y p x h ne

pub places_none : (places : Places) → ((e : EventName) → place_of places e ≡ None) → ArePlaces places []
places_none places none e = record {
  right = λ p at. absurd (no_some p (sym (none e) ∙ at));
  all = λ p at. absurd (no_name p at);
}
  where
    no_some : (p : ℕ) → ◌≡◌ {A = Option ℕ} None (Some p) → ⊥
    no_some p h = cc

    no_name : (p : ℕ) → ◌≡◌ {A = Option EventName} None (Some e) → ⊥
    no_name p h = cc

pub places_same : (old new : Places) (names : List EventName) → ((e : EventName) → place_of new e ≡ place_of old e) → ArePlaces old names → ArePlaces new names
places_same old new names same h e = record {
  right = λ p at. (h e).right p (sym (same e) ∙ at);
  all = λ p at. ap is_some (same e) ∙ (h e).all p at;
}

-- a place that is kept has its room
pub room_of : (places : Places) (e : EventName) → is_some (place_of places e) ≡ true → HasRoom places e
room_of places e h = within places.by_name.items e.0 h
  where
    within : (xs : List (Option ℕ)) (n : ℕ) → is_some (get_or xs n None) ≡ true → n < length xs
    within [] n g = absurd (true≢false (sym g))
    within (x ∷ xs) zero g = omega arith
    within (x ∷ xs) (suc n) g = let lt = within xs n g in omega (arith, lt)

-- a name more, at the end
module _ (old new : Places) (names : List EventName) (k : EventName) (n : ℕ) (at_end : n ≡ length names)
    (put : (e : EventName) → place_of new e ≡ cond (e.0 == k.0) (Some n) (place_of old e)) where
  pub places_more : ArePlaces old names → ArePlaces new (names ++ k ∷ [])
  places_more h e = by (e.0 == k.0) refl
    where
      by : (b : Bool) → (e.0 == k.0) ≡ b → Finds (names ++ k ∷ []) e (place_of new e)
      by true same =
          let is : place_of new e ≡ Some n = put e ∙ ap (λ b. cond b (Some n) (place_of old e)) same in
          record {
            right = λ p at. (let one : Some n ≡ Some p = sym is ∙ at in let here : p ≡ length names = (let same_place : n ≡ p = cc in sym same_place ∙ at_end) in
                ap (slice_get (names ++ k ∷ [])) here ∙ get_end names k ∙ ap Some (sym (one_name e k same)));
            all = λ p at. ap is_some is;
          }
      by false apart =
          let is : place_of new e ≡ place_of old e = put e ∙ ap (λ b. cond b (Some n) (place_of old e)) apart in
          record {
            right = λ p at. get_front names (k ∷ []) p e ((h e).right p (sym is ∙ at));
            all = λ p at. ap is_some is ∙ (h e).all p (get_before names k p e at (two_names e k apart));
          }

-- two names that stood at places change them, and no other does
pub record Swapped (old new : List EventName) (p q : ℕ) (a b : EventName) : Type 0 where
  pub first : slice_get new p ≡ Some b
  pub second : slice_get new q ≡ Some a
  pub forth : (r : ℕ) (e : EventName) → e ≢ a → e ≢ b → slice_get old r ≡ Some e → slice_get new r ≡ Some e
  pub back : (r : ℕ) (e : EventName) → e ≢ a → e ≢ b → slice_get new r ≡ Some e → slice_get old r ≡ Some e

module _ (old mid new : Places) (names others : List EventName) (p q : ℕ) (a b : EventName) (swapped : Swapped names others p q a b)
    (first : (e : EventName) → place_of mid e ≡ cond (e.0 == b.0) (Some p) (place_of old e))
    (second : (e : EventName) → place_of new e ≡ cond (e.0 == a.0) (Some q) (place_of mid e)) where
  found_at : (e k : EventName) (n : ℕ) → place_of new e ≡ Some n → (e.0 == k.0) ≡ true → slice_get others n ≡ Some k → Finds others e (place_of new e)
  found_at e k n is same at = record {
    right = λ r found. (let both : Some n ≡ Some r = sym is ∙ found in let one : n ≡ r = cc in ap (slice_get others) (sym one) ∙ at ∙ ap Some (sym (one_name e k same)));
    all = λ r found. ap is_some is;
  }

  pub places_swapped : ArePlaces old names → ArePlaces new others
  places_swapped h e = by_second (e.0 == a.0) refl
    where
      by_first : (b₁ : Bool) → (e.0 == a.0) ≡ false → (e.0 == b.0) ≡ b₁ → Finds others e (place_of new e)
      by_first true apart same =
          found_at e b p (second e ∙ ap (λ c. cond c (Some q) (place_of mid e)) apart ∙ first e ∙ ap (λ c. cond c (Some p) (place_of old e)) same) same swapped.first
      by_first false apart other =
          let is : place_of new e ≡ place_of old e = second e ∙ ap (λ c. cond c (Some q) (place_of mid e)) apart ∙ first e ∙ ap (λ c. cond c (Some p) (place_of old e)) other in
          record {
            right = λ r found. swapped.forth r e (two_names e a apart) (two_names e b other) ((h e).right r (sym is ∙ found));
            all = λ r found. ap is_some is ∙ (h e).all r (swapped.back r e (two_names e a apart) (two_names e b other) found);
          }

      by_second : (b₂ : Bool) → (e.0 == a.0) ≡ b₂ → Finds others e (place_of new e)
      by_second true same = found_at e a q (second e ∙ ap (λ c. cond c (Some q) (place_of mid e)) same) same swapped.second
      by_second false apart = by_first (e.0 == b.0) apart refl
