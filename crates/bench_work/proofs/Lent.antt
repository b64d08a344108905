-- How many tickets are out with workers, when one is lent or struck out.
use Rattle.std.proofs.Common.{◌≡◌, ℕ, ◌+◌, ◌<◌, ◌≤◌, ◌==◌, Bool, true, false, not, cond, nat_lt, List, [], ◌∷◌, ◌++◌, All, Contains, ⊎_elim, refl, sym, ap, subst, arith}
use Rattle.std.proofs.lemmas.List.Elements.{All-head, All-tail}
use Rattle.std.proofs.lemmas.List.Sums.{sum_by-cons, sum_by_push}
use Rattle.ids.specs.declared.names.EventName.{EventName}
use Rattle.desk.specs.Desks.{Lent, without}
use Rattle.book_agenda.proofs.Rising.{in_none, in_cases}
use Rattle.bench_work.specs.Workshop.{lent_after}
use Rattle.bench.proofs.Agrees.{same_test}

abbrev weight : ℕ → Lent → ℕ
weight before t = cond (nat_lt before t.seat) 1 0

above : (before seat : ℕ) → before < seat → nat_lt before seat ≡ true
above before seat h = grind (arith, h)

not_above : (before seat : ℕ) → seat ≤ before → nat_lt before seat ≡ false
not_above before seat h = grind (arith, h)

of_one : (b : Bool) → cond b 1 0 ≤ 1
of_one true = omega arith
of_one false = omega arith

by_front : (before : ℕ) (t : Lent) (ts : List Lent) → lent_after before (t ∷ ts) ≡ weight before t + lent_after before ts
by_front before t ts = sum_by-cons (weight before) t ts

pub none_lent : (before : ℕ) (out : List Lent) → All (λ t. t.seat ≤ before) out → lent_after before out ≡ 0
none_lent before [] h = refl
none_lent before (t ∷ ts) h =
    let here : weight before t ≡ 0 = ap (λ b. cond b 1 0) (not_above before t.seat (All-head (λ (u : Lent). u.seat ≤ before) t ts h)) in
    let rest = none_lent before ts (All-tail (λ (u : Lent). u.seat ≤ before) t ts h) in
    let whole = by_front before t ts in
    omega (arith, here, rest, whole)

pub one_more_lent : (before : ℕ) (out : List Lent) (t : Lent) → lent_after before (out ++ t ∷ []) ≤ lent_after before out + 1
one_more_lent before out t =
    let whole = sum_by_push (weight before) out t in
    let small = of_one (nat_lt before t.seat) in
    omega (arith, whole, small)

kept : (b : Bool) (before : ℕ) (t : Lent) (xs : List Lent) → lent_after before (cond b (t ∷ xs) xs) ≤ weight before t + lent_after before xs
kept true before t xs = let whole = by_front before t xs in omega (arith, whole)
kept false before t xs = omega arith

pub no_more_lent : (before : ℕ) (n : EventName) (out : List Lent) → lent_after before (without n out) ≤ lent_after before out
no_more_lent before n [] = omega arith
no_more_lent before n (t ∷ ts) =
    let rest = no_more_lent before n ts in
    let front = kept (not (t.number.0 == n.0)) before t (without n ts) in
    let whole = by_front before t ts in
    omega (arith, rest, front, whole)

pub one_less_lent : (before : ℕ) (u : Lent) (out : List Lent) → before < u.seat → Contains out u → lent_after before (without u.number out) + 1 ≤ lent_after before out
one_less_lent before u [] h c = absurd (in_none u c)
one_less_lent before u (t ∷ ts) h c = ⊎_elim here (there (one_less_lent before u ts h)) (in_cases t u ts c)
  where
    here : t ≡ u → lent_after before (without u.number (t ∷ ts)) + 1 ≤ lent_after before (t ∷ ts)
    here e =
        let goes : without u.number (t ∷ ts) ≡ without u.number ts = ap (λ b. cond (not b) (t ∷ without u.number ts) (without u.number ts)) (same_test t.number.0 u.number.0 (ap (λ (x : Lent). x.number.0) e)) in
        let less = ap (lent_after before) goes in
        let one : weight before t ≡ 1 = ap (λ b. cond b 1 0) (above before t.seat (subst (λ (x : Lent). before < x.seat) (sym e) h)) in
        let rest = no_more_lent before u.number ts in
        let whole = by_front before t ts in
        omega (arith, less, one, rest, whole)

    there : (Contains ts u → lent_after before (without u.number ts) + 1 ≤ lent_after before ts) → Contains ts u → lent_after before (without u.number (t ∷ ts)) + 1 ≤ lent_after before (t ∷ ts)
    there less k =
        let rest = less k in
        let front = kept (not (t.number.0 == u.number.0)) before t (without u.number ts) in
        let whole = by_front before t ts in
        omega (arith, rest, front, whole)
