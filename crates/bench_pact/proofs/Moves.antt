-- Each step keeps the agreement.
use Rattle.std.proofs.Common.{◌≡◌, ◌≢◌, ◌⊎◌, ℕ, zero, suc, ◌==◌, cond, List, [], ◌∷◌, ◌++◌, length, set, Some, true, false, true≢false, refl, sym, ap, ◌∙◌, subst, inl, inr, ⊎_elim, arith}
use Rattle.std.specs.Prelude.{slice_get}
use Rattle.std.proofs.lemmas.Option.{slice_get_within}
use Rattle.std.proofs.lemmas.Bool.Decides.{eqb_tells}
use mathlib.Core.Option.{some, some-ne-none, some-injective}
use lib.ListN.{get_elem?}
use Rattle.crossbeam_utils.specs.Register.{Turns, Forks, Merges}
use Rattle.atomic_table.proofs.Lists.{at_set, set_again}
use Rattle.bench_pact.specs.declared.TokenView.{TokenView}
use Rattle.bench_pact.specs.declared.Deeds.{Deeds}
use Rattle.bench_pact.specs.Agree.{blank, knower, holder, nobody, joined, keeper_of, holder_of, Fits, Kept, Adds, Writes}

off : false ≡ true → ⊥
off e = true≢false (sym e)

at_end : {A : Type 0} → (l : List A) (a b : A) (j : ℕ) → get_elem? (l ++ a ∷ []) j ≡ some b → (get_elem? l j ≡ some b) ⊎ ((j ≡ length l) × (a ≡ b))
at_end [] a b zero e = inr (refl, some-injective a b e)
at_end [] a b (suc j) e = absurd (some-ne-none b (sym e))
at_end (x ∷ xs) a b zero e = inl e
at_end (x ∷ xs) a b (suc j) e = ⊎_elim (λ h. inl h) (λ h. inr (ap suc h.0, h.1)) (at_end xs a b j e)

length-set : {A : Type 0} → (l : List A) (i : ℕ) (a : A) → length (set l i a) ≡ length l
length-set [] i a = refl
length-set (x ∷ xs) zero a = refl
length-set (x ∷ xs) (suc i) a = ap suc (length-set xs i a)

front : (xs ys : List Deeds) (k : ℕ) (p : Deeds) → slice_get xs k ≡ Some p → slice_get (xs ++ ys) k ≡ Some p
front [] ys k p e = absurd (cc)
front (x ∷ xs) ys zero p e = e
front (x ∷ xs) ys (suc k) p e = front xs ys k p e

last : (xs : List Deeds) (p : Deeds) → slice_get (xs ++ p ∷ []) (length xs) ≡ Some p
last [] p = refl
last (x ∷ xs) p = last xs p

here : (xs : List Deeds) (k : ℕ) (p q : Deeds) → slice_get xs k ≡ Some p → slice_get (set xs k q) k ≡ Some q
here [] k p q e = absurd (cc)
here (x ∷ xs) zero p q e = refl
here (x ∷ xs) (suc k) p q e = here xs k p q e

there : (xs : List Deeds) (k j : ℕ) (q : Deeds) → j ≢ k → slice_get (set xs k q) j ≡ slice_get xs j
there [] k j q n = refl
there (x ∷ xs) zero zero q n = absurd (n refl)
there (x ∷ xs) zero (suc j) q n = refl
there (x ∷ xs) (suc k) zero q n = refl
there (x ∷ xs) (suc k) (suc j) q n = there xs k j q (λ e. n (ap suc e))

-- the owners, with a new one at a place
abbrev moved : (ℕ → ℕ) → ℕ → ℕ → ℕ → ℕ
moved owner place to k = cond (k == place) to (owner k)

moved_here : (owner : ℕ → ℕ) (place to : ℕ) → to ≡ moved owner place to place
moved_here owner place to = ⊎_elim (λ h. ap (λ b. cond b to (owner place)) (sym h.0)) (λ h. absurd (h.1 refl)) (eqb_tells place place)

moved_there : (owner : ℕ → ℕ) (place to k : ℕ) → k ≢ place → owner k ≡ moved owner place to k
moved_there owner place to k n = ⊎_elim (λ h. absurd (n h.1)) (λ h. ap (λ b. cond b to (owner k)) (sym h.0)) (eqb_tells k place)

module _ (seat : ℕ) (log : List Deeds) (owner : ℕ → ℕ) where
  fits_set : (views : List TokenView) (by : ℕ) (w : TokenView) → ((j : ℕ) (u : TokenView) → j ≢ by → get_elem? views j ≡ some u → Fits seat log owner j u) → Fits seat log owner by w → (j : ℕ) (u : TokenView) → get_elem? (set views by w) j ≡ some u → Fits seat log owner j u
  fits_set views by w others mine j u e =
      ⊎_elim
      (λ (x : (j ≡ by) × (w ≡ u)). subst (λ (y : ℕ × TokenView). Fits seat log owner y.0 y.1) (λ i. (sym x.0 i, x.1 i)) mine)
      (λ (x : (j ≢ by) × (get_elem? views j ≡ some u)). others j u x.0 x.1)
      (at_set views by j w u e)

  fits_end : (views : List TokenView) (w : TokenView) → ((j : ℕ) (u : TokenView) → get_elem? views j ≡ some u → Fits seat log owner j u) → Fits seat log owner (length views) w → (j : ℕ) (u : TokenView) → get_elem? (views ++ w ∷ []) j ≡ some u → Fits seat log owner j u
  fits_end views w others mine j u e =
      ⊎_elim
      (λ (x : get_elem? views j ≡ some u). others j u x)
      (λ (x : (j ≡ length views) × (w ≡ u)). subst (λ (y : ℕ × TokenView). Fits seat log owner y.0 y.1) (λ i. (sym x.0 i, x.1 i)) mine)
      (at_end views w u j e)

  fits_nobody : (by : ℕ) → Fits seat log owner by nobody
  fits_nobody by = ((λ k. absurd (off k)), (λ k. absurd (off k)))

pub begins : (words : List ℕ) → Kept words (knower [] ∷ [])
begins words = (0, [], (λ _. 0), one)
  where
    one : (by : ℕ) (v : TokenView) → get_elem? (knower [] ∷ []) by ≡ some v → Fits 0 [] (λ _. 0) by v
    one zero v e = subst (Fits 0 [] (λ _. 0) 0) (some-injective _ _ e) ((λ _. (refl, refl)), (λ c. absurd (off c)))
    one (suc by) v e = absurd (some-ne-none v (sym e))

pub spares : (by : ℕ) (v : TokenView) → Forks Kept by v v nobody
spares by v words views h at = (h.0, h.1, h.2, λ j u e. fits_end h.0 h.1 h.2 (set views by v) nobody (λ i y e'. h.3 i y (subst (λ l. get_elem? l i ≡ some y) (set_again views by v at) e')) (fits_nobody h.0 h.1 h.2 (length (set views by v))) j u e)

pub adds : (by : ℕ) (all : List Deeds) (new : List ℕ) → Turns Kept by (knower all) (λ _. new) Adds
adds by all new words views h at =
    let mine = (h.3 by (knower all) at).0 refl in
    let n = length h.1 in
    let log = h.1 ++ blank ∷ [] in
    let owner = moved h.2 n by in
    let w = joined (knower (all ++ blank ∷ [])) (holder (length all) blank) in
    let same : length all ≡ n = ap length mine.1 in (
      w,
      (
        h.0,
        log,
        owner,
        fits_set h.0 log owner views by w
            (λ j u apart e. (
              (λ k. absurd (apart (((h.3 j u e).0 k).0 ∙ sym mine.0))),
              (λ k. let f = (h.3 j u e).1 k in (front h.1 (blank ∷ []) u.place u.deeds f.0, f.1 ∙ moved_there h.2 n by u.place (λ is. let less = slice_get_within h.1 u.place u.deeds f.0 in omega arith))),
            )) (
              (λ _. (mine.0, ap (λ l. l ++ blank ∷ []) mine.1)),
              (λ _. (subst (λ k. slice_get log k ≡ Some blank) (sym same) (last h.1 blank), subst (λ k. by ≡ owner k) (sym same) (moved_here h.2 n by))),
            ),
      ),
      refl,
    )

pub parts : (by : ℕ) (all : List Deeds) (place : ℕ) (d : Deeds) → Forks Kept by (joined (knower all) (holder place d)) (knower all) (holder place d)
parts by all place d words views h at =
    let v = joined (knower all) (holder place d) in
    let mine = h.3 by v at in
    let keeps = mine.0 refl in
    let holds = mine.1 refl in
    let to = length (set views by (knower all)) in
    let owner = moved h.2 place to in (
      h.0,
      h.1,
      owner,
      fits_end h.0 h.1 owner (set views by (knower all)) (holder place d)
          (fits_set h.0 h.1 owner views by (knower all)
          (λ j u apart e. (
            (λ k. (h.3 j u e).0 k),
            (λ k. let f = (h.3 j u e).1 k in (f.0, f.1 ∙ moved_there h.2 place to u.place (λ is. apart (f.1 ∙ ap h.2 is ∙ sym holds.1)))),
          ))
          ((λ _. keeps), (λ k. absurd (off k))))
          ((λ k. absurd (off k)), (λ _. (holds.0, moved_here h.2 place to))),
    )

pub takes_in : (by : ℕ) (all : List Deeds) (other place : ℕ) (d : Deeds) → Merges Kept by (knower all) other (holder place d) (joined (knower all) (holder place d)) nobody
takes_in by all other place d words views h at apart there =
    let w = joined (knower all) (holder place d) in
    let mine = (h.3 by (knower all) at).0 refl in
    let was : get_elem? views other ≡ some (holder place d) = ⊎_elim (λ (t : (other ≡ by) × (w ≡ holder place d)). absurd (apart t.0)) (λ (t : (other ≢ by) × (get_elem? views other ≡ some (holder place d))). t.1) (at_set views by other w (holder place d) there) in
    let theirs = (h.3 other (holder place d) was).1 refl in
    let owner = moved h.2 place by in (
      h.0,
      h.1,
      owner,
      fits_set h.0 h.1 owner (set views by w) other nobody
          (λ j u away e. ⊎_elim
          (λ (t : (j ≡ by) × (w ≡ u)). subst (λ (y : ℕ × TokenView). Fits h.0 h.1 owner y.0 y.1) (λ i. (sym t.0 i, t.1 i)) ((λ _. mine), (λ _. (theirs.0, moved_here h.2 place by))))
          (λ (t : (j ≢ by) × (get_elem? views j ≡ some u)). (
            (λ k. (h.3 j u t.1).0 k),
            (λ k. let f = (h.3 j u t.1).1 k in (f.0, f.1 ∙ moved_there h.2 place by u.place (λ is. away (f.1 ∙ ap h.2 is ∙ sym theirs.1)))),
          ))
          (at_set views by j w u e))
          (fits_nobody h.0 h.1 owner other),
    )

pub writes : (by : ℕ) (all : List Deeds) (place : ℕ) (was d : Deeds) (new : List ℕ) → Turns Kept by (joined (knower all) (holder place was)) (λ _. new) (Writes d)
writes by all place was d new words views h at =
    let v = joined (knower all) (holder place was) in
    let mine = h.3 by v at in
    let keeps = mine.0 refl in
    let holds = mine.1 refl in
    let w = joined (knower (set all place d)) (holder place d) in
    let log = set h.1 place d in (
      w,
      (
        h.0,
        log,
        h.2,
        fits_set h.0 log h.2 views by w
            (λ j u apart e. (
              (λ k. absurd (apart (((h.3 j u e).0 k).0 ∙ sym keeps.0))),
              (λ k. let f = (h.3 j u e).1 k in (there h.1 place u.place d (λ is. apart (f.1 ∙ ap h.2 is ∙ sym holds.1)) ∙ f.0, f.1)),
            ))
            ((λ _. (keeps.0, ap (λ l. set l place d) keeps.1)), (λ _. (here h.1 place was d holds.0, holds.1))),
      ),
      (refl, subst (λ l. slice_get l place ≡ Some was) (sym keeps.1) holds.0),
    )

-- the moves, at views that are known
pub adds_as : (by : ℕ) (v : TokenView) (all : List Deeds) (new : List ℕ) → v ≡ knower all → Turns Kept by v (λ _. new) Adds
adds_as by v all new is = subst (λ (u : TokenView). Turns Kept by u (λ _. new) Adds) (sym is) (adds by all new)

pub parts_as : (by : ℕ) (v : TokenView) (all : List Deeds) (place : ℕ) (d : Deeds) → v ≡ joined (knower all) (holder place d) → Forks Kept by v (keeper_of v) (holder_of v)
parts_as by v all place d is = subst (λ (u : TokenView). Forks Kept by u (keeper_of u) (holder_of u)) (sym is) (parts by all place d)

pub takes_in_as : (by : ℕ) (v : TokenView) (all : List Deeds) (other : ℕ) (u : TokenView) (place : ℕ) (d : Deeds) → v ≡ knower all → u ≡ holder place d → Merges Kept by v other u (joined v u) nobody
takes_in_as by v all other u place d is as-is = subst (λ (x : TokenView × TokenView). Merges Kept by x.0 other x.1 (joined x.0 x.1) nobody) (λ i. (sym is i, sym as-is i)) (takes_in by all other place d)

pub writes_as : (by : ℕ) (v : TokenView) (all : List Deeds) (place : ℕ) (was d : Deeds) (new : List ℕ) → v ≡ joined (knower all) (holder place was) → Turns Kept by v (λ _. new) (Writes d)
writes_as by v all place was d new is = subst (λ (u : TokenView). Turns Kept by u (λ _. new) (Writes d)) (sym is) (writes by all place was d new)

pub both_known : (v u w : TokenView) (all : List Deeds) (place : ℕ) (d : Deeds) → v ≡ knower all → u ≡ holder place d → w ≡ joined v u → w ≡ joined (knower all) (holder place d)
both_known v u w all place d is as-is so = so ∙ (λ i. joined (is i) (as-is i))

pub after_write : (v w : TokenView) (all : List Deeds) (place : ℕ) (was d : Deeds) → v ≡ joined (knower all) (holder place was) → Writes d v [] [] w → (w ≡ joined (knower (set all place d)) (holder place d)) × (slice_get all place ≡ Some was)
after_write v w all place was d is h = subst (λ (u : TokenView). Writes d u [] [] w) is h
