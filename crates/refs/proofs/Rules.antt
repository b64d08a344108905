-- Walks by rules and as a function.
use Rattle.std.proofs.Common.{◌≡◌, ℕ, zero, suc, ◌+◌, ◌<◌, ◌≤◌, ◌^◌, Bool, true, false, ◌||◌, List, [], ◌∷◌, ◌++◌, length, Option, Some, None, refl, sym, ap, ◌∙◌, subst, ◌⊎◌, inl, inr, arith}
use Rattle.std.proofs.lemmas.List.Folds.{list_any-append}
use Rattle.ids.specs.KeyLaws.{exact_promise}
use Rattle.ids.specs.declared.names.PromId.{PromId}
use Rattle.values.specs.Data.{Val, promise}
use Rattle.values.specs.Promises.{promise_of}
use Rattle.refs.specs.Walks.{Resolutions, same_promise, came, Walk, walk, most_walked}
use Rattle.refs.specs.Leads.{Leads, at_value, at_open, leads_on, Returns, comes_back, goes_on}
use Rattle.refs.specs.Laws.{WhatEndsIsLed, WhatHasNoEndCircles, WhatIsLedEnds, WhatCirclesHasNoEnd, OneEnd, NoEndInARing}
use Rattle.refs.proofs.Steps.{walk-value, walk-seen, walk-open, walk-on}

pub most-is : most_walked ≡ 2 ^ 64
unfolding most_walked
most-is = refl

-- ---- from the function to the rules

abbrev Led : Resolutions → Val → Val → Walk → Type 0
Led m v w x = x.end ≡ Some w → Leads m v x.through w

led_step : (n : ℕ) (m : Resolutions) (seen : List PromId) (p : PromId) (w : Val) → ((u : Val) → Led m u w (walk n m (seen ++ p ∷ []) u)) → Led m (promise p) w (walk (suc n) m seen (promise p))
led_step n m seen p w ih = go (came p seen) refl (m p) refl
  where
    at_itself : m p ≡ None → promise p ≡ w → Leads m (promise p) (p ∷ []) w
    at_itself k q = let P : Val → Type 0 = λ x. Leads m (promise p) (p ∷ []) x in subst P q (at_open p k)

    go : (b : Bool) → came p seen ≡ b → (o : Option Val) → m p ≡ o → Led m (promise p) w (walk (suc n) m seen (promise p))
    go true h o k = subst (Led m (promise p) w) (sym (walk-seen (suc n) m seen p h)) (λ e. absurd (cc))
    go false h None k = subst (Led m (promise p) w) (sym (walk-open n m seen p h k)) (λ e. at_itself k (cc))
    go false h (Some u) k = subst (Led m (promise p) w) (sym (walk-on n m seen p u h k)) (λ e. leads_on p u w _ k (ih u e))

led_value : (n : ℕ) (m : Resolutions) (seen : List PromId) (v w : Val) → promise_of v ≡ None → Led m v w (walk n m seen v)
led_value n m seen v w h = subst (Led m v w) (sym (walk-value n m seen v h)) (λ e. let P : Val → Type 0 = λ x. Leads m v [] x in let q : v ≡ w = cc in subst P q (at_value v h))

led_spent : (m : Resolutions) (seen : List PromId) (p : PromId) (w : Val) → Led m (promise p) w (walk zero m seen (promise p))
unfolding walk
led_spent m seen p w e = absurd (cc)

led : (n : ℕ) (m : Resolutions) (seen : List PromId) (v w : Val) → Led m v w (walk n m seen v)
led zero m seen (promise p) w = led_spent m seen p w
led (suc n) m seen (promise p) w = led_step n m seen p w (λ u. led n m (seen ++ p ∷ []) u w)
led n m seen v w = led_value n m seen v w refl

pub what_ends_is_led : WhatEndsIsLed
what_ends_is_led m v w e = led most_walked m [] v w e

abbrev Ringed : ℕ → Resolutions → List PromId → Val → Walk → Type 0
Ringed n m seen v x = x.end ≡ None → length x.through < n → Returns m seen v x.through

ringed_step : (n : ℕ) (m : Resolutions) (seen : List PromId) (p : PromId) → ((u : Val) → Ringed n m (seen ++ p ∷ []) u (walk n m (seen ++ p ∷ []) u)) → Ringed (suc n) m seen (promise p) (walk (suc n) m seen (promise p))
ringed_step n m seen p ih = go (came p seen) refl (m p) refl
  where
    go : (b : Bool) → came p seen ≡ b → (o : Option Val) → m p ≡ o → Ringed (suc n) m seen (promise p) (walk (suc n) m seen (promise p))
    go true h o k = subst (Ringed (suc n) m seen (promise p)) (sym (walk-seen (suc n) m seen p h)) (λ e l. comes_back seen p h)
    go false h None k = subst (Ringed (suc n) m seen (promise p)) (sym (walk-open n m seen p h k)) (λ e l. absurd (cc))
    go false h (Some u) k = subst (Ringed (suc n) m seen (promise p)) (sym (walk-on n m seen p u h k)) (λ e l. goes_on seen p u _ h k (ih u e (omega arith)))

ringed_value : (n : ℕ) (m : Resolutions) (seen : List PromId) (v : Val) → promise_of v ≡ None → Ringed n m seen v (walk n m seen v)
ringed_value n m seen v h = subst (Ringed n m seen v) (sym (walk-value n m seen v h)) (λ e l. absurd (cc))

ringed : (n : ℕ) (m : Resolutions) (seen : List PromId) (v : Val) → Ringed n m seen v (walk n m seen v)
ringed zero m seen (promise p) = λ e l. absurd (omega arith)
ringed (suc n) m seen (promise p) = ringed_step n m seen p (λ u. ringed n m (seen ++ p ∷ []) u)
ringed n m seen v = ringed_value n m seen v refl

pub what_has_no_end_circles : WhatHasNoEndCircles
what_has_no_end_circles m v e l = ringed most_walked m [] v e (omega (arith, l, most-is))

-- ---- at most one end

-- what leads on from a value that is no promise, and from a promise
from_value : {m : Resolutions} {v x : Val} {qs : List PromId} → Leads m v qs x → promise_of v ≡ None → (qs ≡ []) × (x ≡ v)
from_value (at_value v h) e = (refl, refl)
from_value (at_open p h) e = absurd (cc)
from_value (leads_on p u x ps h l) e = absurd (cc)

abbrev Onward : Resolutions → PromId → List PromId → Val → Type 0
Onward m p qs x = ((m p ≡ None) × (qs ≡ p ∷ []) × (x ≡ promise p)) ⊎ ((u : Val) × (rs : List PromId) × (m p ≡ Some u) × (qs ≡ p ∷ rs) × Leads m u rs x)

from_promise : {m : Resolutions} {v x : Val} {qs : List PromId} → Leads m v qs x → (p : PromId) → v ≡ promise p → Onward m p qs x
from_promise (at_value v h) p e = let f : promise_of v ≡ Some p = ap promise_of e in absurd (cc)
from_promise {m = m} (at_open q h) p e = let f : q ≡ p = cc in inl (sym (ap m f) ∙ h, ap (λ r. r ∷ []) f, e)
from_promise {m = m} (leads_on q u x ps h l) p e = let f : q ≡ p = cc in inr (u, ps, sym (ap m f) ∙ h, ap (λ r. r ∷ ps) f, l)

one_of : {m : Resolutions} {v w : Val} {ps : List PromId} → Leads m v ps w → (qs : List PromId) (x : Val) → Leads m v qs x → (ps ≡ qs) × (w ≡ x)
one_of (at_value v h) qs x k = let f = from_value k h in (sym f.0, sym f.1)
one_of {m = m} (at_open p h) qs x k = go (from_promise k p refl)
  where
    go : Onward m p qs x → (p ∷ [] ≡ qs) × (promise p ≡ x)
    go (inl f) = (sym f.1, sym f.2)
    go (inr f) = let g : m p ≡ Some f.0 = f.2 in absurd (cc)
one_of {m = m} {w = w} (leads_on p u y ps h l) qs x k = along p u y ps qs x h (λ rs z j. one_of l rs z j) (from_promise k p refl)
  where
    along : (p : PromId) (u y : Val) (ps qs : List PromId) (x : Val) → m p ≡ Some u → ((rs : List PromId) (z : Val) → Leads m u rs z → (ps ≡ rs) × (y ≡ z)) → Onward m p qs x → (p ∷ ps ≡ qs) × (y ≡ x)
    along p u y ps qs x h ih (inl f) = let g : m p ≡ None = f.0 in absurd (cc)
    along p u y ps qs x h ih (inr f) =
        let t : f.0 ≡ u = (let a : m p ≡ Some f.0 = f.2 in cc) in
        let P : Val → Type 0 = λ z. Leads m z f.1 x in
        let j = ih f.1 x (subst P t f.4) in
        (ap (λ rs. p ∷ rs) j.0 ∙ sym f.3, j.1)

pub one_end : OneEnd
one_end m v w x ps qs l k = one_of l qs x k

-- ---- from the rules to the function

-- none of the promises was seen, and each comes once
abbrev AreNew : List PromId → List PromId → Type 0
AreNew seen [] = Unit {0}
AreNew seen (p ∷ ps) = (came p seen ≡ false) × AreNew (seen ++ p ∷ []) ps

found : {m : Resolutions} {v w : Val} {ps : List PromId} → Leads m v ps w → (n : ℕ) (seen : List PromId) → length ps ≤ n → AreNew seen ps → walk n m seen v ≡ record { through = ps; end = Some w }
found {m = m} (at_value v h) n seen l a = walk-value n m seen v h
found (at_open p h) zero seen l a = absurd (omega arith)
found {m = m} (at_open p h) (suc n) seen l a = walk-open n m seen p a.0 h
found (leads_on p u w ps h k) zero seen l a = absurd (omega arith)
found {m = m} (leads_on p u w ps h k) (suc n) seen l a = walk-on n m seen p u a.0 h ∙ ap (λ (x : Walk). record { through = p ∷ x.through; end = x.end }) (found k n (seen ++ p ∷ []) (omega arith) a.1)

-- each promise that was seen leads to the same end through more promises
abbrev IsAbove : Resolutions → Val → List PromId → ℕ → Type 0
IsAbove m w seen n = (q : PromId) → came q seen ≡ true → (qs : List PromId) × Leads m (promise q) qs w × (n < length qs)

or_true : (a b : Bool) → (a || b) ≡ true → (a ≡ true) ⊎ (b ≡ true)
or_true true b e = inl refl
or_true false b e = inr e

came_last : (p q : PromId) → came q (p ∷ []) ≡ true → p ≡ q
came_last p q e = go (or_true (same_promise p q) false e)
  where
    go : (same_promise p q ≡ true) ⊎ (false ≡ true) → p ≡ q
    go (inl h) = exact_promise p q h
    go (inr h) = absurd (cc)

above_more : (m : Resolutions) (w : Val) (seen : List PromId) (p : PromId) (ps : List PromId) (n : ℕ) → IsAbove m w seen (length ps) → Leads m (promise p) ps w → n < length ps → IsAbove m w (seen ++ p ∷ []) n
above_more m w seen p ps n a l k q e = go (or_true (came q seen) (came q (p ∷ [])) (sym (list_any-append (λ r. same_promise r q) seen (p ∷ [])) ∙ e))
  where
    go : (came q seen ≡ true) ⊎ (came q (p ∷ []) ≡ true) → (qs : List PromId) × Leads m (promise q) qs w × (n < length qs)
    go (inl h) = let f = a q h in (f.0, f.1, omega (arith, k, f.2))
    go (inr h) = let P : PromId → Type 0 = λ r. Leads m (promise r) ps w in (ps, subst P (came_last p q h) l, k)

not_above : (m : Resolutions) (w : Val) (seen : List PromId) (p : PromId) (ps : List PromId) → IsAbove m w seen (length ps) → Leads m (promise p) ps w → came p seen ≡ false
not_above m w seen p ps a l = go (came p seen) refl
  where
    go : (b : Bool) → came p seen ≡ b → came p seen ≡ false
    go false h = h
    go true h = let f = a p h in absurd (omega (arith, f.2, ap length (one_of l f.0 w f.1).0))

are_new : {m : Resolutions} {v w : Val} {ps : List PromId} → Leads m v ps w → (seen : List PromId) → IsAbove m w seen (length ps) → AreNew seen ps
are_new (at_value v h) seen a = tt
are_new {m = m} (at_open p h) seen a = (not_above m (promise p) seen p (p ∷ []) a (at_open p h), tt)
are_new {m = m} (leads_on p u w ps h k) seen a = (not_above m w seen p (p ∷ ps) a (leads_on p u w ps h k), are_new k (seen ++ p ∷ []) (above_more m w seen p (p ∷ ps) (length ps) a (leads_on p u w ps h k) (omega arith)))

-- the walk, where the rules lead through no more promises
pub found_all : (n : ℕ) (m : Resolutions) (v w : Val) (ps : List PromId) → Leads m v ps w → length ps ≤ n → walk n m [] v ≡ record { through = ps; end = Some w }
found_all n m v w ps l k = found l n [] k (are_new l [] (λ q e. absurd (cc)))

pub what_is_led_ends : WhatIsLedEnds
what_is_led_ends m v w ps l k = let f = found_all most_walked m v w ps l (omega (arith, most-is, k)) in (ap (λ x. x.through) f, ap (λ x. x.end) f)

pub ring_found : {m : Resolutions} {seen : List PromId} {v : Val} {ps : List PromId} → Returns m seen v ps → (n : ℕ) → length ps ≤ n → walk n m seen v ≡ record { through = ps; end = None }
ring_found {m = m} (comes_back seen p h) n l = walk-seen n m seen p h
ring_found (goes_on seen p v ps h k r) zero l = absurd (omega arith)
ring_found {m = m} (goes_on seen p v ps h k r) (suc n) l = walk-on n m seen p v h k ∙ ap (λ (x : Walk). record { through = p ∷ x.through; end = x.end }) (ring_found r n (omega arith))

pub what_circles_has_no_end : WhatCirclesHasNoEnd
what_circles_has_no_end m v ps r k = let f = ring_found r most_walked (omega (arith, most-is, k)) in (ap (λ x. x.through) f, ap (λ x. x.end) f)

pub no_end_in_a_ring : NoEndInARing
no_end_in_a_ring m v w ps qs l r =
    let f = ap (λ x. x.end) (found_all (length ps + length qs) m v w ps l (omega arith)) in
    let g = ap (λ x. x.end) (ring_found r (length ps + length qs) (omega arith)) in
    let e : Some w ≡ None = sym f ∙ g in
    cc
