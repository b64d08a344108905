-- The members of a set of places, in ascending order, are the places of what passes a test.
use Rattle.std.proofs.Common.{Less, Equal, Greater, ◌≡◌, ℕ, suc, ◌+◌, ◌<◌, ◌≤◌, ◌==◌, Bool, true, false, cond, ◌||◌, List, [], ◌∷◌, Some, map, filter, slice_get, inl, inr, refl, sym, ap, ap₂, ◌∙◌, arith, eqb-true, eq-eqb, ne_eqb, true≢false, nat_lt, ltb-true, ◌-◌}
use Rattle.std.specs.List.{AllByRecursion}
use Rattle.std.specs.Option.{option_map_or}
use Rattle.std.specs.Ordering.{nat_cmp}
use Rattle.std.specs.List.Sorted.{IsStrictlySortedBy}
use Rattle.std.proofs.lemmas.Bool.{or_left, or_cases}
use Rattle.history.proofs.Lists.{all_map, any_gives}
use Rattle.causality.specs.Causes.{has_place}

-- each is below those behind it
abbrev pub Ascending : List ℕ → Type 0
Ascending [] = Unit {0}
Ascending (k ∷ ks) = AllByRecursion (λ q. k < q) ks × Ascending ks

pub less : (x y : ℕ) → nat_cmp x y ≡ Less → x < y
less x y h = by (nat_lt x y) refl h
  where
    never : (b : Bool) → cond b Equal Greater ≡ Less → ⊥
    never true e = cc
    never false e = cc

    by : (b : Bool) → nat_lt x y ≡ b → cond b Less (cond (x == y) Equal Greater) ≡ Less → x < y
    by true e g = ltb-true x y e
    by false e g = absurd (never (x == y) g)

pub ascending : (ks : List ℕ) → IsStrictlySortedBy nat_cmp ks → Ascending ks
unfolding IsStrictlySortedBy
ascending [] h = tt
ascending (k ∷ ks) (h, hs) = (all_map _ _ ks (λ q is. less k q is) h, ascending ks hs)

-- what is at a place passes a test
abbrev pub passes : {A : Type 0} → (A → Bool) → List A → ℕ → Bool
passes test xs q = option_map_or test (slice_get xs q) false

-- those that are not below n and have not n are above it
pub above : (n : ℕ) (ks : List ℕ) → AllByRecursion (λ k. n ≤ k) ks → has_place ks n ≡ false → AllByRecursion (λ k. n + 1 ≤ k) ks
above n [] h none = tt
above n (k ∷ ks) (h, hs) none = by (k == n) refl none (above n ks hs)
  where
    next : (k == n) ≡ false → n + 1 ≤ k
    next apart = let ne : k ≡ n → ⊥ = λ is. true≢false (sym (eq-eqb k n is) ∙ apart) in omega (arith, h, ne)

    by : (b : Bool) → (k == n) ≡ b → (b || has_place ks n) ≡ false → (has_place ks n ≡ false → AllByRecursion (λ j. n + 1 ≤ j) ks) → AllByRecursion (λ j. n + 1 ≤ j) (k ∷ ks)
    by true e g rest = absurd (true≢false g)
    by false e g rest = (next e, rest g)

-- an ascending list that has n and nothing below it begins with n
pub first_is : (n k : ℕ) (ks : List ℕ) → n ≤ k → AllByRecursion (λ q. k < q) ks → has_place (k ∷ ks) n ≡ true → k ≡ n
first_is n k ks le more has = elim (or_cases (k == n) (has_place ks n) has) [
  | inl here ↦ eqb-true k n here
  | inr there ↦ absurd (any_gives ⊥ (λ q. q == n) ks there (all_map _ _ ks (λ q lt is. let e : q ≡ n = eqb-true q n is in omega (arith, lt, le, e)) more))
]

module _ {A B : Type 0} (test : A → Bool) (f : A → B) where
  -- THE LEMMA
  pub named_ascending : (xs : List A) (n : ℕ) (ks : List ℕ) (at : ℕ → B) → Ascending ks → AllByRecursion (λ k. n ≤ k) ks → ((q : ℕ) → has_place ks (n + q) ≡ passes test xs q)
      → ((q : ℕ) (x : A) → slice_get xs q ≡ Some x → at (n + q) ≡ f x) → map at ks ≡ map f (filter test xs)
  named_ascending [] n [] at up low has is = refl
  named_ascending [] n (k ∷ ks) at up (low, lows) has is =
      let e : n + (k - n) ≡ k = omega (arith, low) in
      absurd (true≢false (sym (ap (has_place (k ∷ ks)) e ∙ or_left _ _ (eq-eqb k k refl)) ∙ has (k - n)))
  named_ascending (x ∷ xs) n ks at up low has is =
      by (test x) refl ks up low has (λ js ups lows more. named_ascending xs (n + 1) js at ups lows more (λ q y g. ap at (on q) ∙ is (suc q) y g))
    where
      here : n + 0 ≡ n
      here = omega arith

      on : (q : ℕ) → (n + 1) + q ≡ n + suc q
      on q = omega arith

      by : (b : Bool) → test x ≡ b → (js : List ℕ) → Ascending js → AllByRecursion (λ k. n ≤ k) js → ((q : ℕ) → has_place js (n + q) ≡ passes test (x ∷ xs) q)
          → ((is : List ℕ) → Ascending is → AllByRecursion (λ k. n + 1 ≤ k) is → ((q : ℕ) → has_place is ((n + 1) + q) ≡ passes test xs q) → map at is ≡ map f (filter test xs))
          → map at js ≡ map f (cond b (x ∷ filter test xs) (filter test xs))
      by false e js up low has rest =
          let none : has_place js n ≡ false = ap (has_place js) (sym here) ∙ has 0 ∙ e in
          rest js up (above n js low none) (λ q. ap (has_place js) (on q) ∙ has (suc q))
      by true e [] up low has rest = absurd (true≢false (sym (has 0 ∙ e)))
      by true e (k ∷ js) (up, ups) (low, lows) has rest =
          let first : k ≡ n = first_is n k js low up (ap (has_place (k ∷ js)) (sym here) ∙ has 0 ∙ e) in
          ap₂ (λ y ys. y ∷ ys) (ap at (first ∙ sym here) ∙ is 0 x refl)
          (rest js ups (all_map _ _ js (λ q lt. omega (arith, lt, first)) up)
          (λ q. (let ne : (k == (n + 1) + q) ≡ false = ne_eqb k ((n + 1) + q) (λ same. omega (arith, same, first)) in sym (ap (λ b. b || has_place js ((n + 1) + q)) ne)) ∙ ap (has_place (k ∷ js)) (on q) ∙ has (suc q)))
