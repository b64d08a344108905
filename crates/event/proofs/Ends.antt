-- The end of a walk is told from a ring: a promise that was resolved is no end.
use Rattle.std.proofs.Common.{◌≡◌, ℕ, zero, suc, Bool, true, false, not, List, [], ◌∷◌, length, slice_get, Option, Some, None, is_some, refl, sym, ap, ◌∙◌, arith}
use Rattle.std.specs.Option.{unwrap_or}
use Rattle.std.proofs.lemmas.Bool.{false≢true}
use Rattle.ids.specs.declared.names.PromId.{PromId}
use Rattle.values.specs.Data.{Val, promise}
use Rattle.values.specs.Promises.{promise_of}
use Rattle.refs.specs.Walks.{Resolutions, walk, most_walked, followed}
use Rattle.refs.specs.Leads.{Leads, at_value, at_open, leads_on as leads_further}
use Rattle.refs.proofs.Rules.{most-is, what_ends_is_led, found_all}
use Rattle.refs.proofs.Steps.{walk-value}
use Rattle.refs.proofs.Way.{is_promise}
use Rattle.world_cells.specs.World.{World, published_as}
use Rattle.event.specs.Walks.{leads_on, is_known, fences_of, last_fences}

-- an end that is a promise is unresolved
ends_open : {m : Resolutions} {v w : Val} {ps : List PromId} → Leads m v ps w → (p : PromId) → w ≡ promise p → m p ≡ None
ends_open (at_value v h) p e = let f : promise_of v ≡ Some p = ap promise_of e in absurd (cc)
ends_open {m = m} (at_open q h) p e = let f : q ≡ p = cc in sym (ap m f) ∙ h
ends_open (leads_further q u w ps h l) p e = ends_open l p e

-- so it leads no further
no_further : (m : Resolutions) (v u : Val) → (walk most_walked m [] v).end ≡ Some u → leads_on m (promise_of u) ≡ false
no_further m v u e = go (promise_of u) refl
  where
    go : (o : Option PromId) → promise_of u ≡ o → leads_on m o ≡ false
    go None h = refl
    go (Some p) h = ap is_some (ends_open (what_ends_is_led m v u e) p (is_promise u p (sym h)))

-- where there is no end the value is a promise that was resolved
goes_round : (m : Resolutions) (v : Val) → (walk most_walked m [] v).end ≡ None → leads_on m (promise_of v) ≡ true
goes_round m v e = go (promise_of v) refl
  where
    resolved : (p : PromId) → v ≡ promise p → (o : Option Val) → m p ≡ o → is_some o ≡ true
    resolved p h (Some u) g = refl
    resolved p h None g =
        let there = ap (λ x. x.end) (found_all most_walked m (promise p) (promise p) (p ∷ []) (at_open p g) (omega (arith, most-is))) in
        let none = sym (ap (λ u. (walk most_walked m [] u).end) h) ∙ e in
        absurd (cc)

    go : (o : Option PromId) → promise_of v ≡ o → leads_on m o ≡ true
    go None h = let there = ap (λ x. x.end) (walk-value most_walked m [] v h) in absurd (cc)
    go (Some p) h = resolved p (is_promise v p (sym h)) (m p) refl

-- what is followed is an end just where it leads no further
pub end_is : (m : Resolutions) (v e : Val) (b : Bool) → e ≡ followed m v → b ≡ leads_on m (promise_of e) → b ≡ false → (walk most_walked m [] v).end ≡ Some e
end_is m v e b h g off = go (walk most_walked m [] v).end refl
  where
    go : (o : Option Val) → (walk most_walked m [] v).end ≡ o → (walk most_walked m [] v).end ≡ Some e
    go (Some u) k = k ∙ ap Some (sym (h ∙ ap (λ o. unwrap_or o v) k))
    go None k =
        let same : e ≡ v = h ∙ ap (λ o. unwrap_or o v) k in
        absurd (false≢true (sym off ∙ g ∙ ap (λ u. leads_on m (promise_of u)) same ∙ goes_round m v k))

pub ring_is : (m : Resolutions) (v e : Val) (b : Bool) → e ≡ followed m v → b ≡ leads_on m (promise_of e) → b ≡ true → (walk most_walked m [] v).end ≡ None
ring_is m v e b h g on = go (walk most_walked m [] v).end refl
  where
    go : (o : Option Val) → (walk most_walked m [] v).end ≡ o → (walk most_walked m [] v).end ≡ None
    go None k = k
    go (Some u) k =
        let same : e ≡ u = h ∙ ap (λ o. unwrap_or o v) k in
        absurd (false≢true (sym (g ∙ ap (λ x. leads_on m (promise_of x)) same ∙ no_further m v u k) ∙ on))

-- ---- what is known

no_promise : (u : Val) → is_known (Some u) ≡ not (is_some (promise_of u))
no_promise (promise p) = refl
no_promise _ = refl

pub known_is : (m : Resolutions) (v e : Val) → e ≡ followed m v → is_known (walk most_walked m [] v).end ≡ not (is_some (promise_of e))
known_is m v e h = go (walk most_walked m [] v).end refl
  where
    round : (o : Option PromId) → leads_on m o ≡ true → false ≡ not (is_some o)
    round None k = absurd (false≢true k)
    round (Some p) k = refl

    go : (o : Option Val) → (walk most_walked m [] v).end ≡ o → is_known (walk most_walked m [] v).end ≡ not (is_some (promise_of e))
    go (Some u) k = ap is_known k ∙ no_promise u ∙ ap (λ x. not (is_some (promise_of x))) (sym (h ∙ ap (λ o. unwrap_or o v) k))
    go None k = ap is_known k ∙ round (promise_of v) (goes_round m v k) ∙ ap (λ x. not (is_some (promise_of x))) (sym (h ∙ ap (λ o. unwrap_or o v) k))

-- a vat without cells knows nothing of any promise
pub nothing_followed : (m : Resolutions) (v : Val) → ((p : PromId) → m p ≡ None) → v ≡ followed m v
nothing_followed m v none = go (promise_of v) refl
  where
    go : (o : Option PromId) → promise_of v ≡ o → v ≡ followed m v
    go None h = sym (ap (λ x. unwrap_or x.end v) (walk-value most_walked m [] v h))
    go (Some p) h =
        let e = is_promise v p (sym h) in
        let open_end = ap (λ x. unwrap_or x.end (promise p)) (found_all most_walked m (promise p) (promise p) (p ∷ []) (at_open p (none p)) (omega (arith, most-is))) in
        e ∙ sym open_end ∙ ap (followed m) (sym e)

-- nothing is there just where not something is
pub none_told : (o : Option PromId) (b : Bool) → is_some o ≡ not b → b ≡ not (is_some o)
none_told o b h = by b h
  where
    by : (b : Bool) → is_some o ≡ not b → b ≡ not (is_some o)
    by true h = sym (ap not h)
    by false h = sym (ap not h)

-- the fences of the last promise of a walk
pub last_is : (w : World) (ps : List PromId) (k : ℕ) (p : PromId) → suc k ≡ length ps → slice_get ps k ≡ Some p → last_fences w ps ≡ fences_of (published_as w p)
last_is w [] k p e h = absurd (omega (arith, e))
last_is w (q ∷ []) zero p e h = let same : q ≡ p = cc in ap (λ r. fences_of (published_as w r)) same
last_is w (q ∷ []) (suc k) p e h = absurd (omega (arith, e))
last_is w (q ∷ r ∷ ps) zero p e h = absurd (omega (arith, e))
last_is w (q ∷ r ∷ ps) (suc k) p e h = last_is w (r ∷ ps) k p (omega (arith, e)) h
