-- On the ejectors whose Escapes are being evaluated, of which the program pushes the newest at the end.
use Rattle.std.proofs.Common.{◌≡◌, ℕ, arith, List, [], ◌∷◌, ◌++◌, length, take, drop, length-append, length-drop, append_assoc, true, false, cond, refl, sym, ap, ◌∙◌}
use Rattle.std.proofs.lemmas.List.{take-append-drop}
use Rattle.ids.specs.declared.names.EjId.{EjId}
use Rattle.eval_rules.specs.Rules.{same_ejector, is_open}
use Rattle.eval_rules.specs.View.{opened_of, ejectors_after}
use Rattle.eval_rules.proofs.Scopes.{same_end}

ejectors_after-append : (js xs ys : List EjId) → ejectors_after js (xs ++ ys) ≡ ejectors_after (ejectors_after js xs) ys
ejectors_after-append js [] ys = refl
ejectors_after-append js (x ∷ xs) ys = ejectors_after-append (x ∷ js) xs ys

-- the newest ejector is the last one pushed
pub opened_of-push : (xs : List EjId) (j : EjId) → opened_of (xs ++ j ∷ []) ≡ (j ∷ opened_of xs)
opened_of-push xs j = ejectors_after-append [] xs (j ∷ [])

-- the newest ejector is the one that is sought
pub open_here : (xs older : List EjId) (i j : EjId) → xs ≡ older ++ i ∷ [] → same_ejector i j ≡ true → true ≡ is_open j (opened_of xs)
open_here xs older i j e t = sym (ap (λ ys. is_open j (opened_of ys)) e ∙ ap (is_open j) (opened_of-push older i) ∙ ap (λ b. cond b true (is_open j (opened_of older))) t)

-- the newest ejector is another one
pub open_on : (xs older : List EjId) (i j : EjId) → xs ≡ older ++ i ∷ [] → same_ejector i j ≡ false → is_open j (opened_of older) ≡ is_open j (opened_of xs)
open_on xs older i j e t = sym (ap (λ ys. is_open j (opened_of ys)) e ∙ ap (is_open j) (opened_of-push older i) ∙ ap (λ b. cond b true (is_open j (opened_of older))) t)

-- no ejector is left
pub open_nowhere : (xs : List EjId) (j : EjId) → length xs ≡ 0 → false ≡ is_open j (opened_of xs)
open_nowhere [] j e = refl
open_nowhere (x ∷ xs) j e = absurd (omega (arith, e))

ejectors_after-split : (js xs : List EjId) → ejectors_after js xs ≡ opened_of xs ++ js
ejectors_after-split js [] = refl
ejectors_after-split js (x ∷ xs) =
    ejectors_after-split (x ∷ js) xs
    ∙ sym (ap (λ ms. ms ++ js) (ejectors_after-split (x ∷ []) xs) ∙ append_assoc (opened_of xs) (x ∷ []) js)

length-opened_of : (xs : List EjId) → length (opened_of xs) ≡ length xs
length-opened_of [] = refl
length-opened_of (x ∷ xs) = ap length (ejectors_after-split (x ∷ []) xs) ∙ omega (arith, length-append (opened_of xs) (x ∷ []), length-opened_of xs)

-- the ejectors that were there before a newer one
pub opened_truncated : (xs ys : List EjId) (n : ℕ) (j : EjId) → n ≡ length xs → opened_of ys ≡ (j ∷ opened_of xs) → opened_of (take n ys) ≡ opened_of xs
opened_truncated xs ys n j e g =
    let whole : opened_of ys ≡ opened_of (drop n ys) ++ opened_of (take n ys) = ap opened_of (sym (take-append-drop n ys)) ∙ ejectors_after-append [] (take n ys) (drop n ys) ∙ ejectors_after-split (opened_of (take n ys)) (drop n ys) in
    let l1 : length (opened_of ys) ≡ length (j ∷ opened_of xs) = ap length g in
    same_end (opened_of (drop n ys)) (j ∷ []) (opened_of (take n ys)) (opened_of xs) (sym whole ∙ g)
    (omega (arith, l1, e, length-opened_of xs, length-opened_of ys, length-opened_of (drop n ys), length-drop n ys))
