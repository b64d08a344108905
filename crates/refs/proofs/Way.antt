-- A walk that has come some way.
use Rattle.std.proofs.Common.{◌≡◌, ℕ, zero, suc, ◌+◌, ◌<◌, ◌^◌, List, [], ◌∷◌, ◌++◌, length, drop, length-append, ◌≤◌, Some, None, true, false, refl, sym, ap, ◌∙◌, append_assoc, append-nil, Result, Ok, Err, IfOk, arith}
use Rattle.std.specs.Result.{OnOk}
use Rattle.std.specs.declared.alloc.AllocError.{AllocError}
use Rattle.std.specs.Option.{unwrap_or}
use Rattle.std.proofs.lemmas.List.{drop_all, drop-append-le}
use Rattle.ids.specs.declared.names.PromId.{PromId}
use Rattle.values.specs.Data.{Val, promise}
use Rattle.values.specs.Promises.{promise_of}
use Rattle.values.specs.View.{val_of}
use Rattle.values.specs.declared.value.Value.{Value}
use Rattle.refs.specs.Walks.{Resolutions, came, walk, most_walked, walked, followed}
use Rattle.refs.proofs.Steps.{walk-value, walk-seen, walk-open, walk-on}

-- the walk of a promise is what was seen, and the walk of the promise that it has come to, through as many as are left
pub record IsOnTheWay (m : Resolutions) (first : PromId) (seen : List PromId) (p : PromId) (count : ℕ) : Type 0 where
  pub left : ℕ
  pub all : left + count ≡ 2 ^ 64
  pub through : walked m (promise first) ≡ seen ++ (walk left m seen (promise p)).through
  pub end : (walk most_walked m [] (promise first)).end ≡ (walk left m seen (promise p)).end

most_is : most_walked + 0 ≡ 2 ^ 64
unfolding most_walked
most_is = refl

pub way_begins : (m : Resolutions) (first : PromId) → IsOnTheWay m first [] first 0
way_begins m first = record { left = most_walked; all = most_is; through = refl; end = refl }

-- where the walk ends: what it went through, and at what
abbrev pub Ends : Resolutions → PromId → List PromId → Val → Type 0
Ends m first ps v = (walked m (promise first) ≡ ps) × (followed m (promise first) ≡ v)

some_left : (left count : ℕ) → left + count ≡ 2 ^ 64 → count < 2 ^ 64 → (k : ℕ) × (left ≡ suc k)
some_left zero count e h = absurd (omega arith)
some_left (suc k) count e h = (k, refl)

pub way_circles : (m : Resolutions) (first : PromId) (seen : List PromId) (p : PromId) (count : ℕ) → IsOnTheWay m first seen p count → true ≡ came p seen → Ends m first seen (promise first)
way_circles m first seen p count h e =
    let w = walk-seen h.left m seen p (sym e) in
    (h.through ∙ ap (λ x. seen ++ x.through) w ∙ append-nil seen, ap (λ o. unwrap_or o (promise first)) (h.end ∙ ap (λ x. x.end) w))

pub way_open : (m : Resolutions) (first : PromId) (seen : List PromId) (p : PromId) (count : ℕ) → IsOnTheWay m first seen p count → count < 2 ^ 64 → false ≡ came p seen → m p ≡ None → Ends m first (seen ++ p ∷ []) (promise p)
way_open m first seen p count h l e f =
    let k = some_left h.left count h.all l in
    let w = ap (λ n. walk n m seen (promise p)) k.1 ∙ walk-open k.0 m seen p (sym e) f in
    (h.through ∙ ap (λ x. seen ++ x.through) w, ap (λ o. unwrap_or o (promise first)) (h.end ∙ ap (λ x. x.end) w))

pub way_ends : (m : Resolutions) (first : PromId) (seen : List PromId) (p : PromId) (count : ℕ) (v : Val) → IsOnTheWay m first seen p count → count < 2 ^ 64 → false ≡ came p seen → m p ≡ Some v → promise_of v ≡ None → Ends m first (seen ++ p ∷ []) v
way_ends m first seen p count v h l e f g =
    let k = some_left h.left count h.all l in
    let x = walk-value k.0 m (seen ++ p ∷ []) v g in
    let w = ap (λ n. walk n m seen (promise p)) k.1 ∙ walk-on k.0 m seen p v (sym e) f in
    (h.through ∙ ap (λ y. seen ++ y.through) w ∙ ap (λ y. seen ++ p ∷ y.through) x, ap (λ o. unwrap_or o (promise first)) (h.end ∙ ap (λ y. y.end) w ∙ ap (λ y. y.end) x))

pub way_goes : (m : Resolutions) (first : PromId) (seen : List PromId) (p q : PromId) (count : ℕ) → IsOnTheWay m first seen p count → count < 2 ^ 64 → false ≡ came p seen → m p ≡ Some (promise q) → IsOnTheWay m first (seen ++ p ∷ []) q (count + 1)
way_goes m first seen p q count h l e f =
    let k = some_left h.left count h.all l in
    let w = ap (λ n. walk n m seen (promise p)) k.1 ∙ walk-on k.0 m seen p (promise q) (sym e) f in
    record {
      left = k.0;
      all = omega (arith, h.all, k.1);
      through = h.through ∙ ap (λ y. seen ++ y.through) w ∙ sym (append_assoc seen (p ∷ []) _);
      end = h.end ∙ ap (λ y. y.end) w;
    }

-- ---- the promises that were added behind others

pub added_none : (start : ℕ) (xs : List PromId) → start ≡ length xs → drop start xs ≡ []
added_none start xs e = drop_all start xs (omega (arith, e))

pub added_one : (start : ℕ) (old all new : List PromId) (p : PromId) → all ≡ old ++ drop start all → start ≡ length old → new ≡ all ++ p ∷ [] → drop start new ≡ drop start all ++ p ∷ []
added_one start old all new p e s f =
    let l : start ≤ length all = omega (arith, s, ap length e, length-append old (drop start all)) in
    ap (drop start) f ∙ drop-append-le start all (p ∷ []) l

pub added : (start : ℕ) (old all new : List PromId) (p : PromId) → all ≡ old ++ drop start all → start ≡ length old → new ≡ all ++ p ∷ [] → new ≡ old ++ (drop start all ++ p ∷ [])
added start old all new p e s f = f ∙ ap (λ xs. xs ++ p ∷ []) e ∙ append_assoc old (drop start all) (p ∷ [])

-- ---- what the program finds

pub is_promise : (v : Val) (q : PromId) → Some q ≡ promise_of v → v ≡ promise q
is_promise (promise p) q e = let f : p ≡ q = cc in ap promise f
is_promise _ q e = absurd (cc)

pub shared_is : (r : Result Value AllocError) (v w : Val) → v ≡ w → IfOk r (λ e. val_of e ≡ v) → IfOk r (λ e. val_of e ≡ w)
shared_is (Ok x) v w e h = h ∙ e
shared_is (Err x) v w e h = tt

pub on_ok : {A : Type 0} (r : Result A AllocError) {P : Type 0} → P → OnOk r P
on_ok (Ok x) h = h
on_ok (Err x) h = tt

-- a value that is no promise is its own end
pub own_end : (m : Resolutions) (v : Val) → None ≡ promise_of v → (walked m v ≡ []) × (followed m v ≡ v)
own_end m v e = let w = walk-value most_walked m [] v (sym e) in (ap (λ x. x.through) w, ap (λ x. unwrap_or x.end v) w)
