-- What a past tells of braces: what happened in braces that are open still, and that a pair of braces with all that is in it leaves no trace.
use Rattle.std.proofs.Common.{◌≡◌, ◌⊎◌, inl, inr, ℕ, zero, suc, ◌+◌, List, [], ◌∷◌, ◌++◌, Option, Some, None, ap, sym, refl, ◌∙◌, append_assoc, arith}
use Rattle.kernele_scopes.specs.Bindings.{Happening, opens, closes, defines, opened, closed, left_open, Happened, following, braced, defining}
use Rattle.kernele_scopes.specs.declared.naming.TopName.{TopName}

-- a thing that is in a past is the last one, or is in the past before that
pub split_cons : (h e : Happening) (past since before : List Happening) → h ∷ past ≡ since ++ e ∷ before
    → ((h ≡ e) × (since ≡ [])) ⊎ ((c : List Happening) × (since ≡ h ∷ c) × (past ≡ c ++ e ∷ before))
split_cons h e past [] before is = inl (cc, refl)
split_cons h e past (g ∷ since) before is = let same : g ≡ h = cc in inr (since, ap (λ (x : Happening). x ∷ since) same, cc)

-- a thing that is in two pasts, one behind the other, is in one of them
pub split_append : (e : Happening) (xs ys since before : List Happening) → xs ++ ys ≡ since ++ e ∷ before
    → ((d : List Happening) × (xs ≡ since ++ e ∷ d)) ⊎ ((d : List Happening) × (since ≡ xs ++ d) × (ys ≡ d ++ e ∷ before))
split_append e [] ys since before is = inr (since, refl, is)
split_append e (x ∷ xs) ys [] before is = let same : x ≡ e = cc in inl (xs, ap (λ (y : Happening). y ∷ xs) same)
split_append e (x ∷ xs) ys (y ∷ since) before is = let same : x ≡ y = cc in deeper same (split_append e xs ys since before (cc))
  where
    deeper : x ≡ y → ((d : List Happening) × (xs ≡ since ++ e ∷ d)) ⊎ ((d : List Happening) × (since ≡ xs ++ d) × (ys ≡ d ++ e ∷ before))
        → ((d : List Happening) × (x ∷ xs ≡ y ∷ (since ++ e ∷ d))) ⊎ ((d : List Happening) × (y ∷ since ≡ x ∷ (xs ++ d)) × (ys ≡ d ++ e ∷ before))
    deeper same (inl at) = let rest : xs ≡ since ++ e ∷ at.0 = at.1 in inl (at.0, cc)
    deeper same (inr at) = let rest : since ≡ xs ++ at.0 = at.1 in inr (at.0, cc, at.2)

-- nothing is in an empty past
not_in_nil : (e : Happening) (since before : List Happening) → [] ≡ since ++ e ∷ before → ⊥
not_in_nil e [] before is = cc
not_in_nil e (x ∷ since) before is = cc

pub not_happened : (e : Happening) (n : ℕ) → Happened e n [] → ⊥
not_happened e n h = not_in_nil e h.0 h.1 h.2

-- before one more pair of braces opened, one less was open
pub opened_from : (o : Option ℕ) (n : ℕ) → opened o ≡ Some n → (m : ℕ) × (o ≡ Some m) × (n ≡ suc m)
opened_from None n e = absurd (cc)
opened_from (Some m) n e = (m, refl, cc)

-- before one closed, one more was open
pub closed_from : (o : Option ℕ) (n : ℕ) → closed o ≡ Some n → o ≡ Some (suc n)
closed_from None n e = absurd (cc)
closed_from (Some zero) n e = absurd (cc)
closed_from (Some (suc m)) n e = let same : m ≡ n = cc in ap (λ (k : ℕ). Some (suc k)) same

-- where braces closed that a past did not open, none is told of what went on from there
none_stays : (c d : List Happening) → left_open d ≡ None → left_open (c ++ d) ≡ None
none_stays [] d e = e
none_stays (opens ∷ c) d e = ap opened (none_stays c d e)
none_stays (closes ∷ c) d e = ap closed (none_stays c d e)
none_stays (_ ∷ c) d e = none_stays c d e

-- what two pasts left open is open behind both
joined : (c d : List Happening) (k m : ℕ) → left_open c ≡ Some k → left_open d ≡ Some m → left_open (c ++ d) ≡ Some (k + m)
joined [] d k m e f = let zero_left : 0 ≡ k = cc in let same : m ≡ k + m = omega arith in f ∙ ap (λ (n : ℕ). Some n) same
joined (opens ∷ c) d k m e f = let from = opened_from (left_open c) k e in let same : suc (from.0 + m) ≡ k + m = omega arith in ap opened (joined c d from.0 m from.1 f) ∙ ap (λ (n : ℕ). Some n) same
joined (closes ∷ c) d k m e f = let same : suc k + m ≡ suc (k + m) = omega arith in ap closed (joined c d (suc k) m (closed_from (left_open c) k e) f ∙ ap (λ (n : ℕ). Some n) same)
joined (_ ∷ c) d k m e f = joined c d k m e f

-- where a past left nothing open, all is as before it
even : (b d : List Happening) → left_open b ≡ Some 0 → left_open (b ++ d) ≡ left_open d
even b d h = at (left_open d) refl
  where
    at : (o : Option ℕ) → left_open d ≡ o → left_open (b ++ d) ≡ o
    at None e = none_stays b d e
    at (Some m) e = let same : 0 + m ≡ m = omega arith in joined b d 0 m h e ∙ ap (λ (n : ℕ). Some n) same

-- the past behind a pair of braces in which this happened
abbrev pub passed : List Happening → List Happening → List Happening
passed b past = closes ∷ (b ++ opens ∷ past)

-- behind them as many are open as before
pub passed_open : (b d : List Happening) → left_open b ≡ Some 0 → left_open (passed b d) ≡ left_open d
passed_open b d h = ap closed (even b (opens ∷ d) h) ∙ back (left_open d)
  where
    back : (o : Option ℕ) → closed (opened o) ≡ o
    back None = refl
    back (Some n) = refl

-- the braces of what happened inside are closed
hidden : (c d : List Happening) (n : ℕ) → left_open (c ++ d) ≡ Some 0 → left_open (closes ∷ c) ≡ Some n → ⊥
hidden c d n all inside = at (left_open d) refl
  where
    at : (o : Option ℕ) → left_open d ≡ o → ⊥
    at None e = let none = none_stays c d e in absurd (cc)
    at (Some m) e = let both = joined c d (suc n) m (closed_from (left_open c) n inside) e in let same : suc n + m ≡ 0 = cc in absurd (omega arith)

-- what stands in a past stands in the past behind braces
pub passed_split : (b past since before : List Happening) (e : Happening) → past ≡ since ++ e ∷ before → passed b past ≡ passed b since ++ e ∷ before
passed_split b past since before e is = ap (λ (p : List Happening). passed b p) is ∙ ap (λ (p : List Happening). closes ∷ p) (sym (append_assoc b (opens ∷ since) (e ∷ before)))

-- what happened before a pair of braces has happened behind them
pub happened_passed : (e : Happening) (n : ℕ) (b past : List Happening) → left_open b ≡ Some 0 → Happened e n past → Happened e n (passed b past)
happened_passed e n b past h at = (passed b at.0, at.1, passed_split b past at.0 at.1 e at.2, passed_open b at.0 h ∙ at.3)

-- and nothing else that is no brace has
pub passed_happened : (e : Happening) (n : ℕ) (b past : List Happening) → (opens ≡ e → ⊥) → (closes ≡ e → ⊥) → left_open b ≡ Some 0 → Happened e n (passed b past) → Happened e n past
passed_happened e n b past no_open no_close h at = last (split_cons closes e (b ++ opens ∷ past) at.0 at.1 at.2)
  where
    before : (c d : List Happening) → at.0 ≡ closes ∷ c → c ≡ b ++ d → ((opens ≡ e) × (d ≡ [])) ⊎ ((f : List Happening) × (d ≡ opens ∷ f) × (past ≡ f ++ e ∷ at.1)) → Happened e n past
    before c d closing over (inl is) = absurd (no_open is.0)
    before c d closing over (inr is) =
        let since : at.0 ≡ passed b is.0 = closing ∙ ap (λ (p : List Happening). closes ∷ p) (over ∙ ap (λ (p : List Happening). b ++ p) is.1) in
        (is.0, at.1, is.2, sym (passed_open b is.0 h) ∙ ap left_open (sym since) ∙ at.3)

    inside : (c : List Happening) → at.0 ≡ closes ∷ c → ((d : List Happening) × (b ≡ c ++ e ∷ d)) ⊎ ((d : List Happening) × (c ≡ b ++ d) × (opens ∷ past ≡ d ++ e ∷ at.1)) → Happened e n past
    inside c closing (inl is) = absurd (hidden c (e ∷ is.0) n (ap left_open (sym is.1) ∙ h) (ap left_open (sym closing) ∙ at.3))
    inside c closing (inr is) = before c is.0 closing is.1 (split_cons opens e past is.0 at.1 is.2)

    last : ((closes ≡ e) × (at.0 ≡ [])) ⊎ ((c : List Happening) × (at.0 ≡ closes ∷ c) × (b ++ opens ∷ past ≡ c ++ e ∷ at.1)) → Happened e n past
    last (inl is) = absurd (no_close is.0)
    last (inr is) = inside is.0 is.1 (split_append e b (opens ∷ past) is.0 at.1 is.2)

-- things that leave no braces open and close none but their own, whatever was before them
abbrev pub IsEven : List Happening → Type 0
IsEven hs = (past : List Happening) → (b : List Happening) × (following past hs ≡ b ++ past) × (left_open b ≡ Some 0)

pub following-append : (past xs ys : List Happening) → following past (xs ++ ys) ≡ following (following past xs) ys
following-append past [] ys = refl
following-append past (x ∷ xs) ys = following-append (x ∷ past) xs ys

pub even_nil : IsEven []
even_nil past = ([], refl, refl)

pub even_append : (xs ys : List Happening) → IsEven xs → IsEven ys → IsEven (xs ++ ys)
even_append xs ys one two past =
    let a = one past in
    let b = two (following past xs) in
    (b.0 ++ a.0, following-append past xs ys ∙ b.1 ∙ ap (λ (p : List Happening). b.0 ++ p) a.1 ∙ sym (append_assoc b.0 a.0 past), even b.0 a.0 b.2 ∙ a.2)

-- behind braces
pub following_braced : (hs past : List Happening) (even : IsEven hs) → following past (braced hs) ≡ passed (even (opens ∷ past)).0 past
following_braced hs past even = following-append (opens ∷ past) hs (closes ∷ []) ∙ ap (λ (p : List Happening). closes ∷ p) (even (opens ∷ past)).1

pub even_braced : (hs : List Happening) → IsEven hs → IsEven (braced hs)
even_braced hs one past =
    let b = (one (opens ∷ past)).0 in
    (passed b [], following_braced hs past one ∙ ap (λ (p : List Happening). closes ∷ p) (sym (append_assoc b (opens ∷ []) past)), passed_open b [] (one (opens ∷ past)).2)

-- one thing that is no brace
pub even_one : (h : Happening) → ((past : List Happening) → left_open (h ∷ past) ≡ left_open past) → IsEven (h ∷ [])
even_one h quiet past = (h ∷ [], refl, quiet [])

-- names that are defined
pub even_defining : (ts : List TopName) → IsEven (defining ts)
even_defining [] past = even_nil past
even_defining (t ∷ ts) past = even_append (defines t ∷ []) (defining ts) (even_one (defines t) (λ p. refl)) (even_defining ts) past
