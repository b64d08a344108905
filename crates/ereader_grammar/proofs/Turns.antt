-- On what may come again and again.
use Rattle.std.proofs.Common.{◌≡◌, subst, ℕ, zero, suc, ◌<◌, ◌≤◌, List, length, Option, Some, None, refl, ap, ◌∙◌, arith, ◌⊎◌, inl, inr, Bool, true, false, cond}
use Rattle.etoken.specs.declared.token.Token.{Token}
use Rattle.ereader_grammar.specs.Reading.{Read, ◌>>=◌, or_else, repeat}

-- taking what is read apart
pub bind_some : {A B : Type 0} (x : Option A) (f : A → Option B) {y : B} → (x >>= f) ≡ Some y → (v : A) × (x ≡ Some v) × (f v ≡ Some y)
bind_some (Some v) f e = (v, refl, e)
bind_some None f e = absurd (cc)

pub or_else_is : {A B : Type 0} (o : Option A) (y : B) (f : A → B) {z : B} → or_else o y f ≡ z → ((o ≡ None) × (y ≡ z)) ⊎ ((v : A) × (o ≡ Some v) × (f v ≡ z))
or_else_is None y f e = inl (refl, e)
or_else_is (Some v) y f e = inr (v, refl, e)

pub if_is : {A : Type 0} (b : Bool) (y z : A) {w : A} → cond b y z ≡ w → ((b ≡ true) × (y ≡ w)) ⊎ ((b ≡ false) × (z ≡ w))
if_is true y z e = inl (refl, e)
if_is false y z e = inr (refl, e)

pub some_same : {A : Type 0} {x y : A} → ◌≡◌ {A = Option A} (Some x) (Some y) → x ≡ y
some_same e = cc

pub none_some : {A : Type 0} {x : A} → ◌≡◌ {A = Option A} None (Some x) → ⊥
none_some e = cc

module _ {A : Type 0} (next : A → List Token → Option (Read A)) where
  repeat_ends : (n : ℕ) (t : A) (a : List Token) → next t a ≡ None → repeat next n t a ≡ Some (t, a)
  repeat_ends zero t a e = refl
  repeat_ends (suc n) t a e = ap (λ o. or_else o (Some (t, a)) (λ turn. turn >>= λ x. repeat next n x.0 x.1)) e

  repeat_goes : (n : ℕ) (t : A) (a : List Token) (turn : Read A) → 0 < n → next t a ≡ Some turn
      → (m : ℕ) × (n ≡ suc m) × (repeat next n t a ≡ (turn >>= λ x. repeat next m x.0 x.1))
  repeat_goes zero t a turn h e = absurd (omega (arith, h))
  repeat_goes (suc n) t a turn h e = (n, refl, ap (λ o. or_else o (Some (t, a)) (λ turn. turn >>= λ x. repeat next n x.0 x.1)) e)

  -- What is read is what further turns give: t is what came before, and a is left.
  pub record Turns (read : Read A) (t : A) (a : List Token) : Type 0 where
    pub fuel : ℕ
    pub enough : length a ≤ fuel
    pub is : read ≡ repeat next fuel t a

-- nothing has come before
pub turns_here : {A : Type 0} (next : A → List Token → Option (Read A)) (t : A) (a : List Token) → Turns next (repeat next (length a) t a) t a
turns_here next t a = record { fuel = length a; enough = omega arith; is = refl }

pub turns_begin : {A B : Type 0} (next : A → List Token → Option (Read A)) (join : B → A) (first : Read B) {t : B} {a : List Token} → first ≡ Some (t, a)
    → Turns next (first >>= λ x. repeat next (length x.1) (join x.0) x.1) (join t) a
turns_begin next join first {a = a} e = record { fuel = length a; enough = omega arith; is = ap (λ y. y >>= λ x. repeat next (length x.1) (join x.0) x.1) e }

pub turns_more : {A : Type 0} (next : A → List Token → Option (Read A)) {read : Read A} {t : A} {a : List Token} (turn : Read A) {u : A} {r : List Token}
    → Turns next read t a → next t a ≡ Some turn → turn ≡ Some (u, r) → length r < length a → Turns next read u r
turns_more next {t = t} {a = a} turn c e k h =
    let g = repeat_goes next c.fuel t a turn (omega (arith, h, c.enough)) e in
    record { fuel = g.0; enough = omega (arith, h, g.1, c.enough); is = c.is ∙ g.2 ∙ ap (λ y. y >>= λ x. repeat next g.0 x.0 x.1) k }

pub turns_fail : {A : Type 0} (next : A → List Token → Option (Read A)) {read : Read A} {t : A} {a : List Token} (turn : Read A)
    → Turns next read t a → next t a ≡ Some turn → turn ≡ None → 0 < length a → read ≡ None
turns_fail next {t = t} {a = a} turn c e k h =
    let g = repeat_goes next c.fuel t a turn (omega (arith, h, c.enough)) e in
    c.is ∙ g.2 ∙ ap (λ y. y >>= λ x. repeat next g.0 x.0 x.1) k

pub turns_end : {A : Type 0} (next : A → List Token → Option (Read A)) {read : Read A} {t : A} {a : List Token} → Turns next read t a → next t a ≡ None → read ≡ Some (t, a)
turns_end next {t = t} {a = a} c e = c.is ∙ repeat_ends next c.fuel t a e

pub repeat_sound : {A : Type 0} (next : A → List Token → Option (Read A)) (Whole : A → List Token → Type 0)
    → ((t : A) (a : List Token) (turn : Read A) (x : A × List Token) → next t a ≡ Some turn → turn ≡ Some x → Whole t a → Whole x.0 x.1)
    → (n : ℕ) (t : A) (a : List Token) (x : A × List Token) → Whole t a → repeat next n t a ≡ Some x → Whole x.0 x.1
repeat_sound next Whole step zero t a x w e = subst (λ z. Whole z.0 z.1) (some_same e) w
repeat_sound next Whole step (suc n) t a x w e = elim (or_else_is (next t a) (Some (t, a)) (λ turn. turn >>= λ y. repeat next n y.0 y.1) e) [
  | inl h ↦ subst (λ z. Whole z.0 z.1) (some_same h.1) w
  | inr h ↦ let g = bind_some h.0 (λ y. repeat next n y.0 y.1) h.2 in repeat_sound next Whole step n g.0.0 g.0.1 x (step t a h.0 g.0 h.1 g.1 w) g.2
]
